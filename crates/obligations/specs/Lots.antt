-- Lists in lots: what belongs together stands together.
use Rattle.std.specs.Prelude.{◌≡◌, ℕ, Bool, false, cond, List, [], ◌∷◌, filter, Contains}
use Rattle.cdc_model.specs.Ordered.{is_before}

-- no item comes before an earlier one
abbrev pub Rises : {A : Type 0} → (A → List ℕ) → List A → Type 0
Rises key [] = Unit {0}
Rises key (x ∷ xs) = ((y : _) → Contains xs y → is_before (key y) (key x) ≡ false) × Rises key xs

-- The items of a list by their keys, those that belong together in their order there.
pub record AreInLots {A : Type 0} (same : A → A → Bool) (key : A → List ℕ) (items sorted : List A) : Type 0 where
  pub rises : Rises key sorted
  pub kept : (x : A) → filter (same x) sorted ≡ filter (same x) items

module _ {A : Type 0} (same : A → A → Bool) where
  -- an item before lots, in the first of them if it belongs there
  abbrev pub onto_lots : A → List (List A) → List (List A)
  onto_lots x [] = (x ∷ []) ∷ []
  onto_lots x ([] ∷ lots) = (x ∷ []) ∷ lots
  onto_lots x ((y ∷ ys) ∷ lots) = cond (same x y) ((x ∷ y ∷ ys) ∷ lots) ((x ∷ []) ∷ (y ∷ ys) ∷ lots)

  -- neighbours that belong together
  abbrev pub lots_of : List A → List (List A)
  lots_of [] = []
  lots_of (x ∷ xs) = onto_lots x (lots_of xs)

-- what is found in a lot that passes the test
abbrev pub found_in : {A B : Type 0} → (A → List A → Bool) → (A → List A → B) → List A → List B
found_in test make [] = []
found_in test make (x ∷ xs) = cond (test x (x ∷ xs)) (make x (x ∷ xs) ∷ []) []
