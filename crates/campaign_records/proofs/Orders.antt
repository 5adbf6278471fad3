-- A list that rises is the only sorted one of its items.
use Rattle.std.proofs.Common.{◌≡◌, ◌∙◌, ℕ, suc, ◌<◌, ◌≤◌, ◌&&◌, Bool, true, false, not, cond, map, List, [], ◌∷◌, ◌++◌, length, get_or, Contains, inl, inr, refl, sym, ap, ap₂, subst, arith}
use Rattle.std.specs.Prelude.{filter}
use Rattle.std.specs.Cmp.{IsStrictWeakOrder}
use Rattle.std.specs.List.{AllByRecursion, IsDistinct}
use Rattle.std.specs.List.Sorted.{IsPermutation, IsSortedBy}
use Rattle.std.proofs.lemmas.Bool.{both_ways}
use Rattle.std.proofs.lemmas.List.Elements.{recursion_from_All}
use Rattle.std.proofs.lemmas.List.Sorted.{Contains-permutation, IsPermutation-sym, sorted_far}
use Rattle.std.proofs.lemmas.Map.Keys.{IsDistinct-IsPermutation, IsDistinct-head, IsDistinct-tail}
use Rattle.cdc_model.proofs.Ascending.{here, later, parts, nothing_in}
use Rattle.campaign.proofs.Passing.{each-mapped, each-passing, each-weaker, of-each}

module _ {A : Type 0} (less : A → A → Bool) where
  -- each item is less than those behind it
  abbrev pub Rises : List A → Type 0
  Rises [] = Unit {0}
  Rises (x ∷ xs) = AllByRecursion (λ y. less x y ≡ true) xs × Rises xs

  -- neither of two is less
  abbrev pub ties : A → A → Bool
  ties x y = not (less x y) && not (less y x)

  ties-flip : (x y : A) → ties x y ≡ ties y x
  ties-flip x y = go (less x y) (less y x)
    where
      go : (a b : Bool) → (not a && not b) ≡ (not b && not a)
      go true true = refl
      go true false = refl
      go false true = refl
      go false false = refl

  untied : (x : A) (ys : List A) → AllByRecursion (λ y. less x y ≡ true) ys → AllByRecursion (λ y. ties x y ≡ false) ys
  untied x [] h = tt
  untied x (y ∷ ys) h = (ap (λ v. not v && not (less y x)) h.0, untied x ys h.1)

  pub rising-distinct : (xs : List A) → Rises xs → IsDistinct ties xs
  unfolding IsDistinct
  rising-distinct [] h = tt
  rising-distinct (x ∷ xs) h = (untied x xs h.0, rising-distinct xs h.1)

  -- no later item is less than an earlier one
  abbrev Settled : List A → Type 0
  Settled xs = (i j : ℕ) (d : A) → i ≤ j → j < length xs → less (get_or xs j d) (get_or xs i d) ≡ false

  behind-rises : (x : A) (ys : List A) → AllByRecursion (λ y. less y x ≡ false) ys → AllByRecursion (λ y. ties x y ≡ false) ys → AllByRecursion (λ y. less x y ≡ true) ys
  behind-rises x [] h k = tt
  behind-rises x (y ∷ ys) h k = (go (less x y) (less y x) h.0 k.0, behind-rises x ys h.1 k.1)
    where
      go : (a b : Bool) → b ≡ false → (not a && not b) ≡ false → a ≡ true
      go true b e f = refl
      go false true e f = cc
      go false false e f = cc

  settled-rises : (ys : List A) → Settled ys → IsDistinct ties ys → Rises ys
  settled-rises [] far apart = tt
  settled-rises (y ∷ ys) far apart = (
    behind-rises y ys (recursion_from_All (λ z. less z y ≡ false) ys (λ k d l. far 0 (suc k) d (omega arith) (omega (arith, l)))) (IsDistinct-head ties y ys apart),
    settled-rises ys (λ i j d a b. far (suc i) (suc j) d (omega (arith, a)) (omega (arith, b))) (IsDistinct-tail ties y ys apart),
  )

  pub rises-filter : (test : A → Bool) (xs : List A) → Rises xs → Rises (filter test xs)
  rises-filter test [] h = tt
  rises-filter test (x ∷ xs) h = go (test x) (rises-filter test xs h.1)
    where
      go : (v : Bool) → Rises (filter test xs) → Rises (cond v (x ∷ filter test xs) (filter test xs))
      go true k = (each-passing (λ y. less x y ≡ true) test xs h.0, k)
      go false k = k

  each-both : (x : A) (ys zs : List A) → AllByRecursion (λ y. less x y ≡ true) ys → AllByRecursion (λ y. less x y ≡ true) zs → AllByRecursion (λ y. less x y ≡ true) (ys ++ zs)
  each-both x [] zs h k = k
  each-both x (y ∷ ys) zs h k = (h.0, each-both x ys zs h.1 k)

  pub rises-both : (ys zs : List A) → Rises ys → Rises zs → AllByRecursion (λ y. AllByRecursion (λ z. less y z ≡ true) zs) ys → Rises (ys ++ zs)
  rises-both [] zs h k m = k
  rises-both (y ∷ ys) zs h k m = (each-both y ys zs h.0 m.0, rises-both ys zs h.1 k m.1)

  module _ (ranks : IsStrictWeakOrder less) where
    irreflexive : (x : A) → less x x ≡ false
    irreflexive x = go (less x x) refl
      where
        go : (v : Bool) → less x x ≡ v → less x x ≡ false
        go true e = ranks.one_way x x e
        go false e = e

    not-behind : (x : A) (xs : List A) → Rises (x ∷ xs) → Contains xs x → ⊥
    not-behind x xs h i = both_ways (less x x) (irreflexive x) (of-each (λ y. less x y ≡ true) xs x h.0 i)

    same-items : (xs ys : List A) → Rises xs → Rises ys → ((z : A) → Contains xs z → Contains ys z) → ((z : A) → Contains ys z → Contains xs z) → ys ≡ xs
    same-items [] [] h k f g = refl
    same-items [] (y ∷ ys) h k f g = absurd (nothing_in y (g y (here y ys)))
    same-items (x ∷ xs) [] h k f g = absurd (nothing_in x (f x (here x xs)))
    same-items (x ∷ xs) (y ∷ ys) h k f g = ap₂ (λ z zs. z ∷ zs) heads (same-items xs ys h.1 k.1 there back)
      where
        heads : y ≡ x
        heads = elim (parts y ys x (f x (here x xs))) [
          | inl e ↦ e
          | inr i ↦ elim (parts x xs y (g y (here y ys))) [
            | inl e ↦ sym e
            | inr j ↦ absurd (both_ways (less y x) (ranks.one_way x y (of-each (λ z. less x z ≡ true) xs y h.0 j)) (of-each (λ z. less y z ≡ true) ys x k.0 i))
          ]
        ]

        there : (z : A) → Contains xs z → Contains ys z
        there z i = elim (parts y ys z (f z (later x xs z i))) [
          | inl e ↦ absurd (not-behind x xs h (subst (Contains xs) (sym e ∙ heads) i))
          | inr j ↦ j
        ]

        back : (z : A) → Contains ys z → Contains xs z
        back z i = elim (parts x xs z (g z (later y ys z i))) [
          | inl e ↦ absurd (not-behind y ys k (subst (Contains ys) (sym e ∙ sym heads) i))
          | inr j ↦ j
        ]

    pub less-through : (x y z : A) → less x y ≡ true → less y z ≡ true → less x z ≡ true
    less-through x y z h k = go (less x z) refl
      where
        go : (v : Bool) → less x z ≡ v → less x z ≡ true
        go true e = e
        go false e = absurd (both_ways (less x y) (ranks.chain x z y e (ranks.one_way y z k)) h)

    pub rises-sorted : (xs ys : List A) → IsPermutation xs ys → IsDistinct ties xs → IsSortedBy less ys → Rises ys
    rises-sorted xs ys same apart sorted = settled-rises ys (sorted_far less ranks ys sorted) (IsDistinct-IsPermutation ties ties-flip xs ys same apart)

    pub one-order : (xs ys : List A) → Rises xs → IsPermutation xs ys → IsSortedBy less ys → ys ≡ xs
    one-order xs ys rise same sorted = same-items xs ys rise (rises-sorted xs ys same (rising-distinct xs rise) sorted)
        (λ z i. Contains-permutation xs ys z same i) (λ z i. Contains-permutation ys xs z (IsPermutation-sym xs ys same) i)

-- what rises by one test rises by another that it gives
pub rises-by : {A : Type 0} (less more : A → A → Bool) → ((x y : A) → less x y ≡ true → more x y ≡ true) → (xs : List A) → Rises less xs → Rises more xs
rises-by less more h [] k = tt
rises-by less more h (x ∷ xs) k = (each-weaker (λ y. less x y ≡ true) (λ y. more x y ≡ true) (h x) xs k.0, rises-by less more h xs k.1)

-- items whose images rise
pub rises-map : {A B : Type 0} (less : B → B → Bool) (f : A → B) (xs : List A) → Rises (λ x y. less (f x) (f y)) xs → Rises less (map f xs)
rises-map less f [] h = tt
rises-map less f (x ∷ xs) h = (each-mapped (λ y. less (f x) y ≡ true) f xs h.0, rises-map less f xs h.1)
