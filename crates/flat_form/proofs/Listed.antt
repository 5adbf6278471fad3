-- The entries of a set, while it grows by the signals that a statement assigns.
use Rattle.std.proofs.Common.{◌≡◌, ℕ, ◌+◌, ◌<◌, ◌≤◌, Bool, false, ◌||◌, List, [], ◌∷◌, map, length, drop, get_or, Some, Box, Global, refl, sym, subst, ap, ◌∙◌}
use Rattle.std.proofs.lemmas.List.{drop_more}
use Rattle.std.proofs.Math.Bool.{or_assoc}
use Rattle.flat_meaning.specs.Flat as f
use Rattle.flat_form.specs.declared.flat.FExpr.{FExpr}
use Rattle.flat_form.specs.declared.flat.FStmt.{FStmt}
use Rattle.flat_form.specs.declared.flat.FStmt.TheVariants as s
use Rattle.flat_form.specs.declared.flat.FCaseItem.{FCaseItem}
use Rattle.flat_form.specs.declared.masks.Masks.{Masks}
use Rattle.flat_form.specs.View.{expr_of, Arm, stmt_of, stmts_of, arm_of, items_of}
use Rattle.flat_form.specs.Masks.{has_signal, Lists}
use Rattle.flat_form.proofs.StmtFolds.{stmt_of-Case, stmt_of-Block}
use Rattle.flat_form.proofs.StmtUses.{arm-is}

-- the entries that are there and those still to come, together, are what there was and what comes in all
abbrev pub Unlisted : (old : ℕ → Bool) (now : Masks) (rest whole : ℕ → Bool) → Type 0
Unlisted old now rest whole = (x : ℕ) → (has_signal now x || rest x) ≡ (old x || whole x)

module _ {X : Type 0} (rs : List X → ℕ → Bool) (r : X → ℕ → Bool) (old : ℕ → Bool) (now next : Masks) (whole : ℕ → Bool) where
  pub names-step : (all : List X) (k : ℕ) (x : X) → k < length all → x ≡ get_or all k x → rs (x ∷ drop (k + 1) all) ≡ (λ y. r x y || rs (drop (k + 1) all) y)
      → Unlisted old now (rs (drop k all)) whole → Lists now next (r x) → Unlisted old next (rs (drop (k + 1) all)) whole
  names-step all k x l is step h a y =
      let e : rs (drop k all) ≡ (λ z. r x z || rs (drop (k + 1) all) z) = ap rs (drop_more all k x l ∙ ap (λ (z : X). z ∷ drop (k + 1) all) (sym is)) ∙ step in
      ap (λ b. b || rs (drop (k + 1) all) y) (a y) ∙ or_assoc (has_signal now y) (r x y) (rs (drop (k + 1) all) y) ∙ ap (λ (g : ℕ → Bool). has_signal now y || g y) (sym e) ∙ h y

names-two : (a b c : Masks) (p q : ℕ → Bool) → Lists a b p → Lists b c q → Lists a c (λ y. p y || q y)
names-two a b c p q h k y = k y ∙ ap (λ t. t || q y) (h y) ∙ or_assoc (has_signal a y) (p y) (q y)

named-default : (ks : List Arm) (d : f.Stmt) (y : ℕ) → f.case_assigns (items_of ks (f.default_item d)) y ≡ (f.case_assigns (items_of ks f.no_items) y || f.assigns d y)
named-default [] d y = refl
named-default (a ∷ ks) d y = ap (λ b. f.assigns a.body y || b) (named-default ks d y) ∙ sym (or_assoc (f.assigns a.body y) (f.case_assigns (items_of ks f.no_items) y) (f.assigns d y))

module _ (x : FStmt) where
  names-as : (a b : Masks) (z : f.Stmt) → stmt_of x ≡ z → Lists a b (f.assigns z) → Lists a b (f.assigns (stmt_of x))
  names-as a b z is h = subst (λ (y : f.Stmt). Lists a b (f.assigns y)) (sym is) h

  pub block-names : (a b : Masks) (parts : List FStmt) → x ≡ s.Block parts → Lists a b (f.all_assign (stmts_of (map stmt_of parts))) → Lists a b (f.assigns (stmt_of x))
  block-names a b parts is h = names-as a b (f.Block (stmts_of (map stmt_of parts))) (ap stmt_of is ∙ stmt_of-Block parts) h

  pub case-names : (a b d : Masks) (e : FExpr) (items : List FCaseItem) (z : Box FStmt Global) → x ≡ s.Case e items (Some z) → Lists a b (f.case_assigns (items_of (map arm_of items) f.no_items)) → Lists b d (f.assigns (stmt_of z.value))
      → Lists a d (f.assigns (stmt_of x))
  case-names a b d e items z is h k =
      names-as a d (f.Case (expr_of e) (items_of (map arm_of items) (f.default_item (stmt_of z.value)))) (ap stmt_of is ∙ stmt_of-Case e items z)
      (λ y. names-two a b d (f.case_assigns (items_of (map arm_of items) f.no_items)) (f.assigns (stmt_of z.value)) h k y ∙ ap (λ t. has_signal a y || t) (sym (named-default (map arm_of items) (stmt_of z.value) y)))

-- an item of a case
pub item-names : (a b : Masks) (x : FCaseItem) → Lists a b (f.assigns (stmt_of x.body)) → Lists a b (f.assigns (arm_of x).body)
item-names a b x h = subst (λ (y : Arm). Lists a b (f.assigns y.body)) (sym (arm-is x)) h
