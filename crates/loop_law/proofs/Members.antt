-- Members of lists, by their places.
use Rattle.std.proofs.Common.{◌≡◌, ◌⊎◌, inl, inr, refl, ap, ◌∙◌, arith, ℕ, zero, suc, ◌+◌, ◌<◌, List, [], ◌∷◌, ◌++◌, length, Some, slice_get, zero-add}
use Rattle.std.specs.List.{Contains, AllByRecursion as Each}
use Rattle.std.proofs.lemmas.List.Elements.{All-contains}
use Rattle.flat_meaning.proofs.Placed.{of_each}
use Rattle.driver_loops.proofs.Members.{contains_get, get_contains}

module _ {A : Type 0} where
  pub found : (xs : List A) (n : ℕ) → n < length xs → (x : A) × (slice_get xs n ≡ Some x)
  found [] n h = absurd (omega arith)
  found (x ∷ xs) zero h = (x, refl)
  found (x ∷ xs) (suc n) h = found xs n (omega arith)

  pub contains_first : (x : A) (xs : List A) → Contains (x ∷ xs) x
  contains_first x xs = contains_get (x ∷ xs) 0 x refl

  pub contains_later : (x y : A) (xs : List A) → Contains xs y → Contains (x ∷ xs) y
  contains_later x y xs h = let at = get_contains xs y h in contains_get (x ∷ xs) (suc at.0) y at.2

  pub contains_cases : (x y : A) (xs : List A) → Contains (x ∷ xs) y → (x ≡ y) ⊎ Contains xs y
  contains_cases x y xs h = let at = get_contains (x ∷ xs) y h in go at.0 at.2
    where
      go : (k : ℕ) → slice_get (x ∷ xs) k ≡ Some y → (x ≡ y) ⊎ Contains xs y
      go zero e = inl (cc)
      go (suc k) e = inr (contains_get xs k y e)

  pub get_past : (xs ys : List A) (k : ℕ) → slice_get (xs ++ ys) (length xs + k) ≡ slice_get ys k
  get_past [] ys k = ap (slice_get ys) (zero-add k)
  get_past (x ∷ xs) ys k = ap (slice_get (x ∷ (xs ++ ys))) (let e : length (x ∷ xs) + k ≡ suc (length xs + k) = omega arith in e) ∙ get_past xs ys k

pub each_contains : (P : ℕ → Type 0) (xs : List ℕ) (x : ℕ) → Each P xs → Contains xs x → P x
each_contains P xs x h c = All-contains P xs x (of_each P xs h) c
