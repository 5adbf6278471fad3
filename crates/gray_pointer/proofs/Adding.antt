-- What a worklist has when two items were added to it.
use Rattle.std.proofs.Common.{◌≡◌, ◌++◌, sym, subst, inl, inr, ◌⊎◌, List, [], ◌∷◌, Contains, Bool, true, false, ◌||◌, refl}
use Rattle.std.specs.List.{list_any}
use Rattle.std.specs.List.Sorted.{IsPermutation}
use Rattle.std.proofs.lemmas.List.Elements.{Contains-push, Contains-push_cases, Contains-append_left}
use Rattle.std.proofs.lemmas.List.Sorted.{IsPermutation-sym, Contains-permutation}
use Rattle.cdc_model.proofs.Ascending.{here, later, parts}
use Rattle.gray_pointer.specs.Worklists.{Adds}

-- the item was met before, or it is one of the two, and waits
abbrev pub IsOneOf : {T : Type 0} → List T → List T → T → T → T → Type 0
IsOneOf met left p q y = Contains met y ⊎ (Contains left y × ((y ≡ p) ⊎ (y ≡ q)))

module _ {T : Type 0} (eq : T → T → Bool) (p q : T) (met left met_one left_one met_two left_two : List T) (one : Adds eq p met left met_one left_one) (two : Adds eq q met_one left_one met_two left_two) where
  pub two_added : (y : T) → Contains met_two y → IsOneOf met left_two p q y
  two_added y h = go (two.added y h)
    where
      early : Contains met y ⊎ (Contains left_one y × (y ≡ p)) → IsOneOf met left_two p q y
      early (inl k) = inl k
      early (inr k) = inr (two.waits y k.0, inl k.1)

      go : Contains met_one y ⊎ (Contains left_two y × (y ≡ q)) → IsOneOf met left_two p q y
      go (inl k) = early (one.added y k)
      go (inr k) = inr (k.0, inr k.1)

  pub still_met : (y : T) → Contains met y → Contains met_two y
  still_met y h = two.kept y (one.kept y h)

  pub still_waits : (y : T) → Contains left y → Contains left_two y
  still_waits y h = two.waits y (one.waits y h)

  pub still_within : ((y : T) → Contains left y → Contains met y) → (y : T) → Contains left_two y → Contains met_two y
  still_within within y h = go (two.only y h)
    where
      early : Contains left y ⊎ Contains met_one y → Contains met_two y
      early (inl k) = still_met y (within y k)
      early (inr k) = two.kept y k

      go : Contains left_one y ⊎ Contains met_two y → Contains met_two y
      go (inl k) = early (one.only y k)
      go (inr k) = k

  module _ (tells : (a b : T) → eq a b ≡ true → a ≡ b) where
    pub first_met : Contains met_two p
    first_met = let (z, h, s) = one.there in two.kept p (subst (Contains met_one) (sym (tells p z s)) h)

    pub second_met : Contains met_two q
    second_met = let (z, h, s) = two.there in subst (Contains met_two) (sym (tells q z s)) h

-- ---- one item

module _ {T : Type 0} (eq : T → T → Bool) (item : T) where
  any_there : (xs : List T) → list_any (eq item) xs ≡ true → (y : T) × Contains xs y × (eq item y ≡ true)
  any_there [] h = cc
  any_there (x ∷ xs) h = go (eq item x) refl h (any_there xs)
    where
      go : (v : Bool) → eq item x ≡ v → (v || list_any (eq item) xs) ≡ true → (list_any (eq item) xs ≡ true → (y : T) × Contains xs y × (eq item y ≡ true))
          → (y : T) × Contains (x ∷ xs) y × (eq item y ≡ true)
      go true e h ih = (x, here x xs, e)
      go false e h ih = let k = ih h in (k.0, later x xs k.0 k.1, k.2)

  -- it is new
  pub adds_new : (met met_then left left_then : List T) → list_any (eq item) met_then ≡ true → IsPermutation (item ∷ met) met_then → left_then ≡ left ++ item ∷ []
      → Adds eq item met left met_then left_then
  adds_new met met_then left left_then there moved pushed = record {
    there = any_there met_then there;
    kept = λ x h. Contains-permutation (item ∷ met) met_then x moved (later item met x h);
    waits = λ x h. subst (λ (l : List T). Contains l x) (sym pushed) (Contains-append_left left (item ∷ []) x h);
    added = λ x h. elim (parts item met x (Contains-permutation met_then (item ∷ met) x (IsPermutation-sym (item ∷ met) met_then moved) h)) [
      | inl same ↦ inr (subst (λ (l : List T). Contains l x) (sym pushed) (subst (Contains (left ++ item ∷ [])) same (Contains-push left item)), sym same)
      | inr j ↦ inl j
    ];
    only = λ x h. elim (Contains-push_cases left item x (subst (λ (l : List T). Contains l x) pushed h)) [
      | inl j ↦ inl j
      | inr same ↦ inr (Contains-permutation (item ∷ met) met_then x moved (subst (Contains (item ∷ met)) same (here item met)))
    ];
  }

  -- it was met before
  pub adds_old : (met met_then left : List T) → list_any (eq item) met_then ≡ true → met_then ≡ met → Adds eq item met left met_then left
  adds_old met met_then left there same = record {
    there = any_there met_then there;
    kept = λ x h. subst (λ (l : List T). Contains l x) (sym same) h;
    waits = λ x h. h;
    added = λ x h. inl (subst (λ (l : List T). Contains l x) same h);
    only = λ x h. inl h;
  }
