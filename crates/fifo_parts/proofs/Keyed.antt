-- A search in a list that ascends by its own keys.
use Rattle.std.proofs.Common.{◌≡◌, ◌↔◌, refl, ℕ, true, List}
use Rattle.std.proofs.Common.{length, Contains, Result, Ordering, subst}
use Rattle.std.specs.List.Sorted.{IsBinarySearchResult, IsSearchInRange}
use Rattle.std.specs.Result.{is_ok}
use Rattle.cdc_model.specs.Ordered.{IsAscending}
use Rattle.cdc_model.proofs.Keys.{Orders, sorted, found as found_by}

module _ {A : Type 0} (cmp : A → A → Ordering) (key : A → List ℕ) (is : Orders cmp key) where
  -- a search among ascending items ends at the item, or it isn't there
  pub found : (xs : List A) (x : A) (r : Result ℕ ℕ) → IsAscending key xs → IsSearchInRange r (length xs) → IsBinarySearchResult (λ y. cmp y x) xs r
      → (is_ok r ≡ true) ↔ Contains xs x
  found xs x r up range h =
      let at = found_by cmp is.total is.same (λ (y : A). y) xs x r (sorted cmp key is (λ (y : A). y) xs up) range h in
      (λ e. let (y, there, same) = at.0 e in subst (Contains xs) same there, λ there. at.1 (x, there, refl))
