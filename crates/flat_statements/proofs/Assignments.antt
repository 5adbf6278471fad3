-- What an assignment is and notes, by what its target and its value are.
use Rattle.std.proofs.Common.{◌≡◌, ◌+◌, ◌^◌, ◌≤◌, Bool, true, false, cond, ◌&&◌, nat_le, List, [], Option, Some, None, refl, sym, ap, ap₂, subst, ◌∙◌, arith, leb-true}
use Rattle.verilog_ast.specs.declared.Delay.{Delay}
use Rattle.verilog_reading.specs.ExprTree.{ExprTree, TargetTree, whole, index_of, part_of, join_of}
use Rattle.verilog_reading.specs.StmtTree.{set}
use Rattle.flat_meaning.specs.Flat.{size}
use Rattle.flat_form.specs.declared.flat.FExpr.{FExpr}
use Rattle.flat_form.specs.declared.flat.FStmt.{FStmt}
use Rattle.flat_form.specs.declared.flat.FStmt.TheVariants as form
use Rattle.flat_form.specs.View.{expr_of, stmt_of}
use Rattle.flat_form.specs.Sizes.{is_sized, kept_of}
use Rattle.flat_form.proofs.Sized.{sized_width}
use Rattle.flat_unfolding.specs.Outcome.{Text, Broken, breaks, breaks_if}
use Rattle.flat_unfolding.specs.Names.{Memory, Meaning, a_param, a_signal, a_memory, no_value, Look, meaning}
use Rattle.flat_unfolding.specs.Expressions.{Term, is_sound, read}
use Rattle.flat_unfolding.specs.Memories.{memory_write}
use Rattle.flat_unfolding.specs.Targets.{Aim, of_registers, Goal, fixed, a_word, nowhere, after, meant_goal, goal, first_name}
use Rattle.flat_unfolding.specs.Statements.{Kind, is_stray, unassigned, goal_broken, is_word, done}
use Rattle.flat_unfolding.specs.Widths.{stmt_keeps_sizes}
use Rattle.flat_names.specs.declared.scope.Memory as code
use Rattle.flat_names.specs.declared.resolved.Resolved.{Resolved}
use Rattle.flat_names.specs.Noting.{Noted, all_noted}
use Rattle.flat_names.specs.Looks.{memory_of, IsFit}
use Rattle.flat_names.specs.Pieces.{IsRead}
use Rattle.flat_targets.specs.declared.target.Fixed.{Fixed}
use Rattle.flat_targets.specs.declared.target.Aim as aim
use Rattle.flat_targets.specs.declared.target.Aim.TheVariants as a
use Rattle.flat_targets.specs.Aims.{IsAim, IsGoal, broken_in}
use Rattle.flat_statements.specs.Statements.{IsDone}
use Rattle.flat_statements.proofs.Done.{noted-four, done-set, done-word, done-unassigned}
use Rattle.flat_statements.proofs.Forms.{builds-set}

-- ---- which target it is

fixed-goal : (g : Goal) (r : aim.Aim) (q : Fixed) → r ≡ a.Fixed q → IsGoal g r → (b : Aim) × (g ≡ fixed b) × IsAim b q
fixed-goal (fixed b) r q e h = (b, refl, subst (IsGoal (fixed b)) e h)
fixed-goal (a_word m i bs) r q e h = absurd (subst (IsGoal (a_word m i bs)) e h)

word-goal : (g : Goal) (r : aim.Aim) (m : code.Memory) (i : FExpr) → r ≡ a.Word m i → IsGoal g r → (bs : List Broken) × (g ≡ a_word (memory_of m) (expr_of i) bs) × (is_sized i ≡ true)
word-goal (fixed b) r m i e h = absurd (subst (IsGoal (fixed b)) e h)
word-goal (a_word n j bs) r m i e h = let p = subst (IsGoal (a_word n j bs)) e h in (bs, ap₂ (λ x y. a_word x y bs) (sym p.0) (sym p.1), p.2)

-- ---- the memory whose word a variable index chooses has a word for each value of the index, and all are signals

abbrev Meets : Goal → Type 0
Meets (fixed b) = Unit {0}
Meets (a_word m e bs) = (2 ^ size e ≤ m.words) × (m.first + m.words ≤ 2 ^ 32)

meets-after : (l : Look) (bs : List Broken) (g : Goal) → Meets g → Meets (after l of_registers bs g)
meets-after l bs (fixed b) h = tt
meets-after l bs (a_word m e cs) h = h

module _ (l : Look) (x : Text) (v : Term) where
  meets-memory : (m : Memory) (constant all : Bool) (b c : Aim) → (all ≡ true → 2 ^ size v.expr ≤ m.words) → m.first + m.words ≤ 2 ^ 32 → Meets (cond constant (fixed b) (cond all (a_word m v.expr []) (fixed c)))
  meets-memory m true all b c h few = tt
  meets-memory m false true b c h few = (h refl, few)
  meets-memory m false false b c h few = tt

  meets-meant : (o : Option Meaning) → ((m : Memory) → o ≡ Some (a_memory m) → m.first + m.words ≤ 2 ^ 32) → Meets (meant_goal l of_registers x v o)
  meets-meant None h = tt
  meets-meant (Some (a_param p)) h = tt
  meets-meant (Some (a_signal s)) h = tt
  meets-meant (Some (a_memory m)) h = meets-memory m v.is_constant (nat_le (2 ^ size v.expr) m.words) _ _ (leb-true (2 ^ size v.expr) m.words) (h m refl)
  meets-meant (Some no_value) h = tt

  meets-chosen : (sound : Bool) (g : Goal) → Meets g → Meets (cond sound g (fixed (nowhere [])))
  meets-chosen true g h = h
  meets-chosen false g h = tt

few-words : (l : Look) → IsFit l → (x : Text) (m : Memory) → meaning l x ≡ Some (a_memory m) → m.first + m.words ≤ 2 ^ 32
few-words l h x m e = let p = (h.memories x m e).1 in let q = h.few in omega arith

meets-goal : (l : Look) → IsFit l → (t : TargetTree) → Meets (goal l t)
meets-goal l h (whole x) = tt
meets-goal l h (index_of x i) = let v = read l i in
    meets-after l _ _ (meets-chosen l x v (is_sound v) (meant_goal l of_registers x v (meaning l x)) (meets-meant l x v (meaning l x) (few-words l h x)))
meets-goal l h (part_of x kind i j) = tt
meets-goal l h (join_of ts) = tt

pub record IsWordOf (m : code.Memory) (i : FExpr) : Type 0 where
  pub sized : is_sized i ≡ true
  pub words : 2 ^ (kept_of i).width ≤ m.words
  pub few : m.first + m.words ≤ 2 ^ 32

pub word-of : (l : Look) → IsFit l → (t : TargetTree) (r : aim.Aim) (m : code.Memory) (i : FExpr) → r ≡ a.Word m i → IsGoal (goal l t) r → IsWordOf m i
word-of l h t r m i e g =
    let p = word-goal (goal l t) r m i e g in
    let q = subst Meets p.1 (meets-goal l h t) in
    record { sized = p.2; words = subst (λ w. 2 ^ w ≤ m.words) (sym (sized_width i p.2)) q.0; few = q.1 }

-- ---- what it notes

same-broken : (g : Goal) → broken_in g ≡ goal_broken g
same-broken (fixed b) = refl
same-broken (a_word m i bs) = refl

no-word : (b : Bool) (x : Text) (now : Noted) → now ≡ all_noted now (breaks_if (b && false) 319 x)
no-word true x now = refl
no-word false x now = refl

module _ (l : Look) (k : Kind) (b : Bool) (delay : Option Delay) (t : TargetTree) (e : ExprTree) (start aimed settled told : Noted) where
  -- what is noted before it is known whether a blocking assignment has a word of a memory as its target
  pub record IsNoted : Type 0 where
    pub target : aimed ≡ all_noted start (broken_in (goal l t))
    pub value : settled ≡ all_noted aimed (read l e).broken
    pub stray : told ≡ all_noted settled (breaks_if (is_stray k b) 313 (first_name t))

  set-noted : IsNoted → (last : Noted) → last ≡ all_noted told (breaks_if (b && is_word (goal l t)) 319 (first_name t)) → last ≡ all_noted start (done l k (set b delay t e)).broken
  set-noted h last n =
      let x = first_name t in
      let us = goal_broken (goal l t) in
      let vs = (read l e).broken in
      let ws = breaks_if (is_stray k b) 313 x in
      let ys = breaks_if (b && is_word (goal l t)) 319 x in
      n ∙ ap (λ g. all_noted g ys) (h.stray ∙ ap (λ g. all_noted g ws) (h.value ∙ ap (λ g. all_noted g vs) (h.target ∙ ap (all_noted start) (same-broken (goal l t))))) ∙ sym (noted-four start us vs ws ys)

  pub fixed-done : IsNoted → (r : aim.Aim) → IsGoal (goal l t) r → (v : Resolved) → IsRead (read l e) v → (q : Fixed) → r ≡ a.Fixed q
      → IsDone (done l k (set b delay t e)) (form.Set b q.target v.expr) × (told ≡ all_noted start (done l k (set b delay t e)).broken)
  fixed-done n r g v h q is =
      let p = fixed-goal (goal l t) r q is g in (
        done-set l k b delay t e p.0 q v (form.Set b q.target v.expr) p.1 p.2 h (builds-set b q.target v.expr),
        set-noted n told (no-word b (first_name t) told ∙ ap (λ z. all_noted told (breaks_if (b && is_word z) 319 (first_name t))) (sym p.1)),
      )

  pub written-done : IsNoted → (r : aim.Aim) → IsGoal (goal l t) r → (v : Resolved) → IsRead (read l e) v → (m : code.Memory) (i : FExpr) → r ≡ a.Word m i → b ≡ false
      → (s : FStmt) → (stmt_of s ≡ memory_write (memory_of m) (expr_of i) (expr_of v.expr)) × (is_sized v.expr ≡ true → stmt_keeps_sizes s ≡ true)
      → IsDone (done l k (set b delay t e)) s × (told ≡ all_noted start (done l k (set b delay t e)).broken)
  written-done n r g v h m i is o s w =
      let p = word-goal (goal l t) r m i is g in (
        subst (λ c. IsDone (done l k (set c delay t e)) s) (sym o) (done-word l k delay t e (memory_of m) (expr_of i) p.0 v s p.1 h w.0 w.1),
        set-noted n told (ap (λ c. all_noted told (breaks_if (c && is_word (goal l t)) 319 (first_name t))) (sym o)),
      )

  pub unassigned-done : IsNoted → (r : aim.Aim) → IsGoal (goal l t) r → (v : Resolved) → IsRead (read l e) v → (m : code.Memory) (i : FExpr) → r ≡ a.Word m i → b ≡ true
      → (last : Noted) → last ≡ all_noted told (breaks 319 (first_name t)) → (s : FStmt) → stmt_of s ≡ unassigned (expr_of i) (expr_of v.expr)
      → IsDone (done l k (set b delay t e)) s × (last ≡ all_noted start (done l k (set b delay t e)).broken)
  unassigned-done n r g v h m i is o last d s w =
      let p = word-goal (goal l t) r m i is g in (
        subst (λ c. IsDone (done l k (set c delay t e)) s) (sym o) (done-unassigned l k delay t e (memory_of m) (expr_of i) p.0 v s p.1 h w),
        set-noted n last (d ∙ ap₂ (λ c z. all_noted told (breaks_if (c && is_word z) 319 (first_name t))) (sym o) (sym p.1)),
      )
