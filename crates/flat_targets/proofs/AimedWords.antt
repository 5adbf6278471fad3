-- Targets by names, from what is told of their parts: parts, bits and words of memories.
use Rattle.std.proofs.Common.{◌≡◌, ◌≢◌, ℕ, suc, ◌+◌, ◌*◌, ◌^◌, ◌<◌, ◌≤◌, Bool, true, false, not, cond, nat_lt, nat_le, List, [], ◌++◌, Option, Some, None, refl, sym, ap, ap₂, subst, ◌∙◌, arith, append_assoc}
use Rattle.std.specs.Prelude.{option_and_then}
use Rattle.std.specs.Option.{option_map_or}
use Rattle.verilog_ast.specs.declared.PartKind.{PartKind}
use Rattle.verilog_ast.specs.declared.Target.{Target}
use Rattle.verilog_ast.specs.declared.Target.TheOpen.{Target-F}
use Rattle.verilog_ast.specs.declared.Target.TheFolds.{fold-roll-Target}
use Rattle.verilog_ast.specs.declared.Target.TheVariants as v
use Rattle.verilog_reading.specs.ExprTree.{TargetTree, TargetTrees, join_of, target_tree_step, target_tree_of}
use Rattle.flat_meaning.specs.Flat.{size}
use Rattle.flat_meaning.proofs.Words.{by_lt}
use Rattle.flat_form.specs.declared.flat.FExpr.{FExpr}
use Rattle.flat_form.specs.View.{expr_of}
use Rattle.flat_form.specs.Sizes.{kept_of}
use Rattle.flat_form.proofs.Sized.{sized_width}
use Rattle.flat_unfolding.specs.Outcome.{Text, Broken, breaks, breaks_if}
use Rattle.flat_unfolding.specs.Names as n
use Rattle.flat_unfolding.specs.Names.{Range, meaning}
use Rattle.flat_unfolding.specs.Constants.{own_value}
use Rattle.flat_unfolding.specs.Expressions.{Term, as_constant, as_bound, as_second, range_of, word_of}
use Rattle.flat_unfolding.specs.Targets as t
use Rattle.flat_unfolding.specs.Targets.{Aim, Use, Goal, fixed, a_word, nowhere, total, group_of}
use Rattle.flat_names.specs.declared.scope.Meaning.{Meaning}
use Rattle.flat_names.specs.declared.scope.Meaning.TheVariants as m
use Rattle.flat_names.specs.declared.scope.Memory.{Memory}
use Rattle.flat_names.specs.declared.resolved.Resolved.{Resolved}
use Rattle.flat_targets.specs.declared.target.Fixed.{Fixed}
use Rattle.flat_targets.specs.declared.target.FixedParts.{FixedParts}
use Rattle.flat_targets.specs.declared.target.Aim as code
use Rattle.flat_targets.specs.declared.target.Aim.TheVariants as a
use Rattle.flat_names.specs.Noting.{Noted, all_noted}
use Rattle.flat_names.specs.Pieces.{EachIs, IsRead}
use Rattle.flat_names.specs.Selects.{bound_notes, second_notes}
use Rattle.flat_names.specs.Looks.{as_value}
use Rattle.flat_targets.specs.Aims.{IsAim, IsGoal, AreAllAims, breaks_of, broken_in, chosen, trees_in}
use Rattle.flat_names.proofs.Notes.{IsOne}
use Rattle.flat_names.proofs.Options.{none-some, some-same}
use Rattle.flat_targets.proofs.Aimed.{then-noted, bounds-noted, behind-gives, no_target, aim-nowhere}

-- ---- parts

pub part-gives : (l : n.Look) (u : Use) (x : Text) (kind : PartKind) (v w : Term) → EachIs IsOne w.broken → (f f1 f2 f3 f4 f5 : Noted) (o : Option Range)
    → f1 ≡ all_noted f (t.name_rules l u x) → f2 ≡ all_noted f1 (as_constant v).broken → f3 ≡ all_noted f2 (as_constant w).broken
    → o ≡ range_of (as_bound v) (as_second kind w) → f4 ≡ all_noted f3 (bound_notes v ++ second_notes kind w) → (r : Fixed)
    → IsAim (t.meant_range l u x kind o (meaning l x)) r × (f5 ≡ all_noted f4 (t.meant_range l u x kind o (meaning l x)).broken)
    → IsAim (t.part_aim l u x kind v w) r × (f5 ≡ all_noted f (t.part_aim l u x kind v w).broken)
part-gives l u x kind v w one f f1 f2 f3 f4 f5 o e1 e2 e3 oe e4 r p =
    let ns = t.name_rules l u x in
    let vs = (as_bound v).broken in
    let ws = (as_second kind w).broken in
    let both : f4 ≡ all_noted f1 (vs ++ ws) = e4 ∙ ap (λ g. all_noted g (bound_notes v ++ second_notes kind w)) (e3 ∙ ap (λ g. all_noted g (as_constant w).broken) e2) ∙ bounds-noted f1 kind v w one in
    let all : f4 ≡ all_noted f ((ns ++ vs) ++ ws) = then-noted f f1 f4 ns (vs ++ ws) e1 both ∙ ap (all_noted f) (sym (append_assoc ns vs ws)) in
    behind-gives ((ns ++ vs) ++ ws) (t.meant_range l u x kind (range_of (as_bound v) (as_second kind w)) (meaning l x)) (t.meant_range l u x kind o (meaning l x)) (ap (λ o. t.meant_range l u x kind o (meaning l x)) (sym oe)) f f4 f5 r all p.0 p.1

-- ---- words of memories

pub along-goal : (g h : Goal) → g ≡ h → (r : code.Aim) (old new : Noted) → IsGoal h r × (new ≡ all_noted old (broken_in h)) → IsGoal g r × (new ≡ all_noted old (broken_in g))
along-goal g h e r old new k = subst (λ g. IsGoal g r × (new ≡ all_noted old (broken_in g))) (sym e) k

pub word-there : (b : n.Memory) (i w k : ℕ) → word_of b i ≡ Some w → b.first + b.words ≤ k → w < k
word-there b i w k e h = by_lt (λ c. cond c (Some (b.first + i)) None ≡ Some w → w < k) i b.words (λ l d. let s = some-same (b.first + i) w d in omega arith) (λ l d. none-some w d) e

abbrev memory_step : n.Look → Use → Text → n.Memory → Term → (constant fits : Bool) → Goal
memory_step l u x b v c d = cond c (fixed (t.word_aim l u x (word_of b (own_value v.expr)))) (cond d (a_word b v.expr []) (fixed (nowhere (breaks 315 x))))

pub memory-constant : (l : n.Look) (u : Use) (x : Text) (b : n.Memory) (v : Term) (i : Resolved) → IsRead v i → i.is_sound ≡ true → i.is_constant ≡ true
    → (w : ℕ) → w ≡ own_value (expr_of i.expr) → (o : Option ℕ) → o ≡ word_of b w → t.memory_goal l u x b v ≡ fixed (t.word_aim l u x o)
memory-constant l u x b v i is sound const w we o oe = ap (λ c. memory_step l u x b v c (nat_le (2 ^ size v.expr) b.words)) (sym is.constant ∙ const)
    ∙ ap (λ o. fixed (t.word_aim l u x o)) (sym (oe ∙ ap (word_of b) (we ∙ ap own_value (is.expr sound))))

size-is : (v : Term) (i : Resolved) → IsRead v i → i.is_sound ≡ true → (w : ℕ) → w ≡ (kept_of i.expr).width → w ≡ size v.expr
size-is v i is sound w we = we ∙ sized_width i.expr (is.sized sound) ∙ ap size (is.expr sound)

-- whether a variable index of this size chooses among words that are all there
pub memory-variable : (l : n.Look) (u : Use) (x : Text) (b : n.Memory) (v : Term) (i : Resolved) → IsRead v i → i.is_sound ≡ true → i.is_constant ≡ false
    → (w : ℕ) → w ≡ (kept_of i.expr).width → (meets : Bool) → meets ≡ nat_le (2 ^ w) b.words → t.memory_goal l u x b v ≡ cond meets (a_word b v.expr []) (fixed (nowhere (breaks 315 x)))
memory-variable l u x b v i is sound const w we meets me = ap (λ c. memory_step l u x b v c (nat_le (2 ^ size v.expr) b.words)) (sym is.constant ∙ const)
    ∙ ap (memory_step l u x b v false) (ap (λ k. nat_le (2 ^ k) b.words) (sym (size-is v i is sound w we)) ∙ sym me)

-- ---- what an index chooses

pub chosen-is : (l : n.Look) (u : Use) (x : Text) (v : Term) (i : Resolved) → IsRead v i → i.is_sound ≡ true → (o : Option n.Meaning) → meaning l x ≡ o → chosen l u x v ≡ t.meant_goal l u x v o
chosen-is l u x v i is sound o e = ap (λ c. cond c (t.meant_goal l u x v (meaning l x)) (fixed (nowhere []))) (sym is.sound ∙ sound) ∙ ap (t.meant_goal l u x v) e

pub after-gives : (l : n.Look) (u : Use) (bs : List Broken) (g : Goal) (r : code.Aim) (f1 f2 f3 : Noted) → f2 ≡ all_noted f1 bs → IsGoal g r × (f3 ≡ all_noted f2 (broken_in g))
    → IsGoal (t.after l u bs g) r × (f3 ≡ all_noted f1 (broken_in (t.after l u bs g)))
after-gives l u bs (fixed b) (a.Fixed f) f1 f2 f3 e h = behind-gives bs b b refl f1 f2 f3 f e h.0 h.1
after-gives l u bs (fixed b) (a.Word k i) f1 f2 f3 e h = absurd h.0
after-gives l u bs (a_word k i cs) (a.Fixed f) f1 f2 f3 e h = absurd h.0
after-gives l u bs (a_word k i cs) (a.Word j y) f1 f2 f3 e h = (h.0, then-noted f1 f2 f3 bs cs e h.1)

pub not-false : (b : Bool) → not b ≡ false → b ≡ true
not-false true e = refl
not-false false e = sym e

-- a word that a variable index chooses, where none may stand
pub fixed-word : (l : n.Look) (u : Use) (x : Text) (g : Goal) (r : code.Aim) (k : Memory) (i : FExpr) → r ≡ a.Word k i → (f f1 f2 : Noted) → IsGoal g r × (f1 ≡ all_noted f (broken_in g)) → (q : Fixed) → q ≡ no_target
    → f2 ≡ all_noted f1 (breaks 319 x) → IsAim (t.as_fixed l u x g) q × (f2 ≡ all_noted f (t.as_fixed l u x g).broken)
fixed-word l u x (fixed b) r k i e f f1 f2 h q d told = absurd (subst (IsGoal (fixed b)) e h.0)
fixed-word l u x (a_word b j cs) r k i e f f1 f2 h q d told =
    (subst (IsAim (nowhere (cs ++ breaks 319 x))) (sym d) (aim-nowhere (cs ++ breaks 319 x)), then-noted f f1 f2 cs (breaks 319 x) h.1 told)

-- ---- groups

pub join-tree : (parts : List Target) → target_tree_of (v.Join parts) ≡ join_of (trees_in parts)
join-tree parts = ap target_tree_of (sym (v.rolls-Join parts)) ∙ fold-roll-Target TargetTree target_tree_step (Target-F.Join parts)

pub join-gives : (l : n.Look) (u : Use) (ts : TargetTrees) (tree : TargetTree) → tree ≡ join_of ts → (f f1 f2 : Noted) (p : FixedParts) → AreAllAims l u ts f f1 p → (r : Fixed)
    → IsAim (group_of (t.aims l u ts) (total (t.aims l u ts))) r × (f2 ≡ all_noted f1 (breaks_if (option_map_or (nat_lt 64) (total (t.aims l u ts)) false) 308 []))
    → IsAim (t.aim l u tree) r × (f2 ≡ all_noted f (t.aim l u tree).broken)
join-gives l u ts tree e f f1 f2 p h r k = subst (λ tree. IsAim (t.aim l u tree) r × (f2 ≡ all_noted f (t.aim l u tree).broken)) (sym e)
    (k.0, then-noted f f1 f2 (breaks_of (t.aims l u ts)) _ h.noted k.1)
