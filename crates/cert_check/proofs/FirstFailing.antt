-- The first item of a list of which something doesn't hold.
use Rattle.std.proofs.Common.{◌≡◌, ◌∙◌, inl, inr, ap, subst, arith, ℕ, ◌+◌, ◌≤◌, true, false, Some, Option, List, length, slice_get, Contains}
use Rattle.std.proofs.lemmas.Bool.{cases_lt}
use Rattle.cdc_model.proofs.Justify.{in_slice}
use Rattle.cert_check.specs.Items.{AllBefore}

pub other : {A : Type 0} → false ≡ true → A
other e = cc

same_item : {A : Type 0} (o : Option A) (x y : A) → o ≡ Some x → o ≡ Some y → x ≡ y
same_item o x y e f = cc

module _ {A : Type 0} (P : A → Type 0) (xs : List A) (n : ℕ) where
  -- it holds of one item more
  pub one_more : AllBefore P xs n → (x : A) → slice_get xs n ≡ Some x → P x → AllBefore P xs (n + 1)
  one_more before x at holds i y l e = elim (cases_lt i n) [
    | inl m ↦ before i y m e
    | inr m ↦ subst P (same_item (slice_get xs n) x y at (ap (slice_get xs) (let f : n ≡ i = omega arith in f) ∙ e)) holds
  ]

  -- it holds of all items
  pub all_hold : AllBefore P xs n → length xs ≤ n → (x : A) → Contains xs x → P x
  all_hold before l x i = before i.0 x (let m = i.1 in omega arith) (in_slice xs x i)
