-- Signals that are declared further leave those before as they were.
use Rattle.std.proofs.Common.{◌≡◌, ℕ, zero, suc, ◌+◌, ◌^◌, ◌<◌, ◌≤◌, Bool, true, false, List, [], ◌∷◌, ◌++◌, length, Option, Some, None, refl, sym, ap, ap₂, subst, ◌∙◌, arith}
use Rattle.std.specs.Prelude.{◌≢◌, slice_get, All}
use Rattle.std.specs.Option.{option_map_or}
use Rattle.std.proofs.lemmas.Nat.{pow_pos}
use Rattle.std.proofs.lemmas.List.Elements.{All-head, All-cons, All-nil, All-tail}
use Rattle.flat_meaning.specs.Flat.{Expr, Number, Read, At, Unary, Binary, Choose, Gate, Join, Repeat, Exprs, no_exprs, expr, size, Target, Whole, Part, Pick, Group, Targets, no_targets, target, target_size, target_sizes, Stmt, Null, Set, If, Case, Block, Items, no_items, default_item, item, Stmts, no_stmts, stmt}
use Rattle.flat_unfolding.specs.Outcome.{Text}
use Rattle.flat_unfolding.specs.Names.{Range, span, width_of, Meaning, a_param, a_signal, a_memory, no_value, Names, Entry, width_at}
use Rattle.flat_unfolding.specs.Design.{change_entry}
use Rattle.flat_unfolding.specs.Sized.{IsSized, AreSized, AreLabelsSized, IsTargetSized, AreTargetsSized, IsStmtSized, AreItemsSized, AreStmtsSized}
use Rattle.flat_unfolding.proofs.Known.{reg_at, open_at, top_at, IsNamed, AreNamed}

-- ---- widths that agree

module _ (wid other : ℕ → ℕ) (agree : (s : ℕ) → 1 ≤ wid s → other s ≡ wid s) where
  at_most : (s n : ℕ) → 1 ≤ n → n ≤ wid s → n ≤ other s
  at_most s n h k = subst (λ w. n ≤ w) (sym (agree s (let l : 1 ≤ wid s = omega arith in l))) k

  mutual
    pub expr_agrees : (e : Expr) → IsSized wid e → IsSized other e
    expr_agrees (Number w n) h = h
    expr_agrees (Read s at w) h = let a = h.0 in (h.0, at_most s (at + w) (let l : 1 ≤ at + w = omega arith in l) h.1)
    expr_agrees (At s e) h = let p = pow_pos (size e) in (at_most s (2 ^ size e) (let l : 1 ≤ 2 ^ size e = omega arith in l) h.0, expr_agrees e h.1)
    expr_agrees (Unary op a) h = expr_agrees a h
    expr_agrees (Binary op a b) h = (h.0, expr_agrees a h.1, expr_agrees b h.2)
    expr_agrees (Choose c x y) h = (expr_agrees c h.0, expr_agrees x h.1, expr_agrees y h.2)
    expr_agrees (Gate op es) h = (h.0, h.1, exprs_agree es h.2)
    expr_agrees (Join es) h = (h.0, h.1, exprs_agree es h.2)
    expr_agrees (Repeat n es) h = (h.0, h.1, h.2, exprs_agree es h.3)

    pub exprs_agree : (es : Exprs) → AreSized wid es → AreSized other es
    exprs_agree no_exprs h = tt
    exprs_agree (expr e es) h = (expr_agrees e h.0, exprs_agree es h.1)

  labels_agree : (es : Exprs) → AreLabelsSized wid es → AreLabelsSized other es
  labels_agree no_exprs h = absurd h
  labels_agree (expr e es) h = (expr_agrees e h.0, exprs_agree es h.1)

  module _ (may can : ℕ → Bool) (allow : (s : ℕ) → 1 ≤ wid s → may s ≡ true → can s ≡ true) where
    mutual
      same_size : (t : Target) → IsTargetSized wid may t → target_size other t ≡ target_size wid t
      same_size (Whole s) h = agree s h.1
      same_size (Part s at w) h = refl
      same_size (Pick s e) h = refl
      same_size (Group ts) h = same_sizes ts h.2

      same_sizes : (ts : Targets) → AreTargetsSized wid may ts → target_sizes other ts ≡ target_sizes wid ts
      same_sizes no_targets h = refl
      same_sizes (target t ts) h = ap₂ (λ m n. m + n) (same_size t h.0) (same_sizes ts h.1)

    mutual
      pub target_agrees : (t : Target) → IsTargetSized wid may t → IsTargetSized other can t
      target_agrees (Whole s) h = (allow s h.1 h.0, subst (λ w. 1 ≤ w) (sym (agree s h.1)) h.1)
      target_agrees (Part s at w) h =
          let a = h.1 in let b = h.2 in
          (allow s (let l : 1 ≤ wid s = omega arith in l) h.0, h.1, at_most s (at + w) (let k : 1 ≤ at + w = omega arith in k) h.2)
      target_agrees (Pick s e) h =
          let p = pow_pos (size e) in let b = h.1 in
          (allow s (let l : 1 ≤ wid s = omega arith in l) h.0, at_most s (2 ^ size e) (let k : 1 ≤ 2 ^ size e = omega arith in k) h.1, expr_agrees e h.2)
      target_agrees (Group ts) h = let e = sym (same_sizes ts h.2) in (subst (λ n. 1 ≤ n) e h.0, subst (λ n. n ≤ 64) e h.1, targets_agree ts h.2)

      pub targets_agree : (ts : Targets) → AreTargetsSized wid may ts → AreTargetsSized other can ts
      targets_agree no_targets h = tt
      targets_agree (target t ts) h = (target_agrees t h.0, targets_agree ts h.1)

    mutual
      pub stmt_agrees : (s : Stmt) → IsStmtSized wid may s → IsStmtSized other can s
      stmt_agrees Null h = tt
      stmt_agrees (Set b t e) h = (target_agrees t h.0, expr_agrees e h.1)
      stmt_agrees (If c x y) h = (expr_agrees c h.0, stmt_agrees x h.1, stmt_agrees y h.2)
      stmt_agrees (Case e is) h = (expr_agrees e h.0, items_agree is h.1)
      stmt_agrees (Block ss) h = stmts_agree ss h

      pub items_agree : (is : Items) → AreItemsSized wid may is → AreItemsSized other can is
      items_agree no_items h = tt
      items_agree (default_item s) h = stmt_agrees s h
      items_agree (item ls s rest) h = (labels_agree ls h.0, stmt_agrees s h.1, items_agree rest h.2)

      pub stmts_agree : (ss : Stmts) → AreStmtsSized wid may ss → AreStmtsSized other can ss
      stmts_agree no_stmts h = tt
      stmts_agree (stmt s ss) h = (stmt_agrees s h.0, stmts_agree ss h.1)

-- ---- entries

-- what is told of an entry by its number
module _ {A : Type 0} (g : Entry → A) (d : A) where
  abbrev pub told : List Entry → ℕ → A
  told es s = option_map_or g (slice_get es s) d

  pub told_same : (f : Entry → Entry) → ((e : Entry) → g (f e) ≡ g e) → (t : ℕ) (es : List Entry) (s : ℕ) → told (change_entry f t es) s ≡ told es s
  told_same f h t [] s = refl
  told_same f h zero (e ∷ es) zero = h e
  told_same f h zero (e ∷ es) (suc s) = refl
  told_same f h (suc t) (e ∷ es) zero = refl
  told_same f h (suc t) (e ∷ es) (suc s) = told_same f h t es s

  pub told_other : (f : Entry → Entry) (t : ℕ) (es : List Entry) (s : ℕ) → s ≢ t → told (change_entry f t es) s ≡ told es s
  told_other f t [] s h = refl
  told_other f zero (e ∷ es) zero h = absurd (h refl)
  told_other f zero (e ∷ es) (suc s) h = refl
  told_other f (suc t) (e ∷ es) zero h = refl
  told_other f (suc t) (e ∷ es) (suc s) h = told_other f t es s (λ k. h (ap suc k))

  pub told_before : (es fs : List Entry) (s : ℕ) → s < length es → told (es ++ fs) s ≡ told es s
  told_before [] fs s h = absurd (omega (arith, h))
  told_before (e ∷ es) fs zero h = refl
  told_before (e ∷ es) fs (suc s) h = told_before es fs s (let l : s < length es = omega (arith, h) in l)

  pub told_behind : (es fs : List Entry) (s : ℕ) → told (es ++ fs) (length es + s) ≡ told fs s
  told_behind [] fs s = ap (told fs) (let l : 0 + s ≡ s = omega arith in l)
  told_behind (e ∷ es) fs s = ap (told (e ∷ es ++ fs)) (let l : length (e ∷ es) + s ≡ suc (length es + s) = omega arith in l) ∙ told_behind es fs s

  pub told_both : (a : A) (es fs : List Entry) (s : ℕ) → told es s ≡ a → ((i : ℕ) → told fs i ≡ a) → told (es ++ fs) s ≡ a
  told_both a [] fs s h k = k s
  told_both a (e ∷ es) fs zero h k = h
  told_both a (e ∷ es) fs (suc s) h k = told_both a es fs s h k

  pub told_none : (es : List Entry) (s : ℕ) → length es ≤ s → told es s ≡ d
  told_none [] s h = refl
  told_none (e ∷ es) zero h = absurd (omega (arith, h))
  told_none (e ∷ es) (suc s) h = told_none es s (let l : length es ≤ s = omega (arith, h) in l)

pub width_some : (r : Option Range) → 1 ≤ width_of r
width_some None = let l : 1 ≤ 1 = omega arith in l
width_some (Some r) = let l : 1 ≤ span r = omega arith in l

-- signals that are declared have a bit, and no others
pub is_declared_at : (es : List Entry) (s : ℕ) → 1 ≤ width_at es s → s < length es
is_declared_at [] s h = absurd (omega (arith, h))
is_declared_at (e ∷ es) zero h = let l : 0 < length (e ∷ es) = omega arith in l
is_declared_at (e ∷ es) (suc s) h = let l = is_declared_at es s h in omega arith

pub has_bits : (es : List Entry) (s : ℕ) → s < length es → 1 ≤ width_at es s
has_bits [] s h = absurd (omega (arith, h))
has_bits (e ∷ es) zero h = width_some e.range
has_bits (e ∷ es) (suc s) h = has_bits es s (let l : s < length es = omega (arith, h) in l)

-- what a signal is stays
pub record SameAt (es fs : List Entry) (s : ℕ) : Type 0 where
  pub width : width_at fs s ≡ width_at es s
  pub reg : reg_at fs s ≡ reg_at es s
  pub is_open : open_at fs s ≡ open_at es s
  pub top : top_at fs s ≡ top_at es s

abbrev pub Grows : List Entry → List Entry → Type 0
Grows es fs = (s : ℕ) → 1 ≤ width_at es s → SameAt es fs s

pub grows_itself : (es : List Entry) → Grows es es
grows_itself es s h = record { width = refl; reg = refl; is_open = refl; top = refl }

pub grows_on : (es fs gs : List Entry) → Grows es fs → Grows fs gs → Grows es gs
grows_on es fs gs h k s l =
    let a = h s l in let b = k s (subst (λ w. 1 ≤ w) (sym a.width) l) in
    record { width = b.width ∙ a.width; reg = b.reg ∙ a.reg; is_open = b.is_open ∙ a.is_open; top = b.top ∙ a.top }

pub grows_behind : (es fs : List Entry) → Grows es (es ++ fs)
grows_behind es fs s h =
    let l = is_declared_at es s h in
    record {
      width = told_before (λ (e : Entry). width_of e.range) 0 es fs s l;
      reg = told_before (λ (e : Entry). e.is_reg) false es fs s l;
      is_open = told_before (λ (e : Entry). e.is_open) false es fs s l;
      top = told_before (λ (e : Entry). e.is_top_input) false es fs s l;
    }

pub same_other : (f : Entry → Entry) (t : ℕ) (es : List Entry) (s : ℕ) → s ≢ t → SameAt es (change_entry f t es) s
same_other f t es s h = record {
  width = told_other (λ (e : Entry). width_of e.range) 0 f t es s h;
  reg = told_other (λ (e : Entry). e.is_reg) false f t es s h;
  is_open = told_other (λ (e : Entry). e.is_open) false f t es s h;
  top = told_other (λ (e : Entry). e.is_top_input) false f t es s h;
}

-- names keep their meaning
pub named_on : (es fs : List Entry) → Grows es fs → (m : Meaning) → IsNamed es m → IsNamed fs m
named_on es fs g (a_param p) h = h
named_on es fs g (a_signal s) h = subst (λ w. 1 ≤ w) (sym (g s h).width) h
named_on es fs g (a_memory m) h = (
  h.0,
  λ n l.
      let w = h.1 n l in let a = g (m.first + n) w.0 in
      (subst (λ x. 1 ≤ x) (sym a.width) w.0, a.reg ∙ w.1, a.is_open ∙ w.2),
)
named_on es fs g no_value h = tt

pub all_on : {A : Type 0} (P Q : A → Type 0) (xs : List A) → ((x : A) → P x → Q x) → All P xs → All Q xs
all_on P Q [] h k = All-nil Q
all_on P Q (x ∷ xs) h k = All-cons Q x xs (h x (All-head P x xs k)) (all_on P Q xs h (All-tail P x xs k))

pub names_on : (es fs : List Entry) (names : Names) → Grows es fs → AreNamed es names → AreNamed fs names
names_on es fs names g = all_on (λ (p : Text × Meaning). IsNamed es p.1) (λ (p : Text × Meaning). IsNamed fs p.1) names (λ p. named_on es fs g p.1)
