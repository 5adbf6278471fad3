-- Items of a `casez` with their names resolved, side by side with what the definition reads them as.
use Rattle.std.specs.Prelude.{◌≡◌, ℕ, ◌≤◌, max, true, List, [], ◌∷◌}
use Rattle.flat_meaning.specs.Flat.{Expr}
use Rattle.flat_form.specs.View.{expr_of}
use Rattle.flat_form.specs.Sizes.{is_word, kept_of, is_sized}
use Rattle.flat_form.specs.declared.flat.FExpr.{FExpr}
use Rattle.flat_unfolding.specs.Expressions.{constant}
use Rattle.flat_unfolding.specs.Statements.{Mask, Way, ways_size}
use Rattle.flat_unfolding.specs.Resets.{labels_broken}
use Rattle.flat_names.specs.Pieces.{SameReads}
use Rattle.flat_statements.specs.declared.masks.MaskLabel.{MaskLabel}
use Rattle.flat_statements.specs.declared.masks.MaskItem.{MaskItem}
use Rattle.flat_statements.specs.Statements.{IsDone}

-- a resolved label is what was read, where it breaks no rule
pub record IsMask (m : Mask) (c : MaskLabel) : Type 0 where
  pub opened : c.opened ≡ m.opened
  pub expr : m.term.broken ≡ [] → expr_of c.expr ≡ m.term.expr
  pub sized : m.term.broken ≡ [] → is_sized c.expr ≡ true

-- two lists, side by side
abbrev pub SideBySide : {A B : Type 0} → (A → B → Type 0) → List A → List B → Type 0
SideBySide P [] [] = Unit {0}
SideBySide P [] (y ∷ ys) = ⊥
SideBySide P (x ∷ xs) [] = ⊥
SideBySide P (x ∷ xs) (y ∷ ys) = P x y × SideBySide P xs ys

abbrev pub AreMasks : List Mask → List MaskLabel → Type 0
AreMasks = SideBySide IsMask

pub record IsWay (a : Way) (i : MaskItem) : Type 0 where
  pub masks : AreMasks a.masks i.labels.items
  pub body : IsDone a.body i.body

abbrev pub AreWays : List Way → List MaskItem → Type 0
AreWays = SideBySide IsWay

-- ---- the size at which a subject and labels are compared

abbrev pub labels_width : ℕ → List MaskLabel → ℕ
labels_width n [] = n
labels_width n (c ∷ cs) = labels_width (max n (kept_of c.expr).width) cs

abbrev pub items_width : ℕ → List MaskItem → ℕ
items_width n [] = n
items_width n (i ∷ is) = items_width (labels_width n i.labels.items) is

-- the largest of a size and those of all labels, where none breaks a rule
pub record IsLargest (n : ℕ) (ws : List Way) (w : ℕ) : Type 0 where
  pub same : labels_broken ws ≡ [] → w ≡ ways_size n ws
  pub most : labels_broken ws ≡ [] → n ≤ 64 → w ≤ 64

-- ---- tests

-- a label by itself, as one that was read
abbrev pub mask_in : MaskLabel → Mask
mask_in c = record { term = constant (expr_of c.expr); opened = c.opened }

-- a label is no wider than the size at which it is compared
pub record Fits (w : ℕ) (c : MaskLabel) : Type 0 where
  pub sized : is_sized c.expr ≡ true
  pub width : (kept_of c.expr).width ≤ w

abbrev pub AllFit : ℕ → List MaskLabel → Type 0
AllFit w [] = Unit {0}
AllFit w (c ∷ cs) = Fits w c × AllFit w cs

-- what is compared at a size has right widths
pub record AreRight (w : ℕ) (s : FExpr) (cs : List MaskLabel) : Type 0 where
  pub size : is_word w ≡ true
  pub subject : is_sized s ≡ true
  pub labels : AllFit w cs

-- a test is the definition's where the widths are right, and reads the same in any case
pub record IsTest (Right : Type 0) (x : Expr) (e : FExpr) : Type 0 where
  pub expr : Right → expr_of e ≡ x
  pub sized : Right → is_sized e ≡ true
  pub reads : SameReads (expr_of e) x
