-- A list that holds exactly what is asked for, in order, is the only one.
use Rattle.std.proofs.Common.{◌≡◌, ℕ, suc, ◌<◌, ◌==◌, ◌&&◌, ◌||◌, nat_lt, true, false, Some, List, [], ◌∷◌, Contains, ◌⊎◌, inl, inr, refl, sym, ap₂, subst, ◌∙◌, arith, eqb-true, eq-eqb, ltb-true}
use Rattle.std.specs.Prelude.{slice_get}
use Rattle.std.proofs.lemmas.Bool.{both_ways, or_cases, and_parts, le-ltb}
use Rattle.cdc_model.specs.Ordered.{is_before, IsAll}
use Rattle.cdc_model.proofs.Ascending.{parts, later}
use Rattle.cdc_model.proofs.Justify.{in_slice}

-- nothing comes before itself, and of two only one comes before the other
pub never_before : (ks : List ℕ) → is_before ks ks ≡ false
never_before [] = refl
never_before (n ∷ ns) = ap₂ (λ u w. u || w) (le-ltb n n (omega arith)) (ap₂ (λ u w. u && w) (eq-eqb n n refl) (never_before ns))

one_before : (ms ns : List ℕ) → is_before ms ns ≡ true → is_before ns ms ≡ true → ⊥
one_before [] [] h k = cc
one_before [] (n ∷ ns) h k = cc
one_before (m ∷ ms) [] h k = cc
one_before (m ∷ ms) (n ∷ ns) h k =
    go (or_cases (nat_lt m n) ((m == n) && is_before ms ns) h) (or_cases (nat_lt n m) ((n == m) && is_before ns ms) k) (one_before ms ns)
  where
    go : (nat_lt m n ≡ true) ⊎ (((m == n) && is_before ms ns) ≡ true) → (nat_lt n m ≡ true) ⊎ (((n == m) && is_before ns ms) ≡ true)
        → (is_before ms ns ≡ true → is_before ns ms ≡ true → ⊥) → ⊥
    go (inl a) (inl b) ih = let p : m < n = ltb-true m n a in let q : n < m = ltb-true n m b in omega arith
    go (inl a) (inr b) ih = let p : m < n = ltb-true m n a in let q : n ≡ m = eqb-true n m (and_parts (n == m) (is_before ns ms) b).0 in omega arith
    go (inr a) (inl b) ih = let p : m ≡ n = eqb-true m n (and_parts (m == n) (is_before ms ns) a).0 in let q : n < m = ltb-true n m b in omega arith
    go (inr a) (inr b) ih = ih (and_parts (m == n) (is_before ms ns) a).1 (and_parts (n == m) (is_before ns ms) b).1

abbrev IsOrdered : {A : Type 0} → (A → List ℕ) → List A → Type 0
IsOrdered key xs = (i j : ℕ) (x y : _) → i < j → slice_get xs i ≡ Some x → slice_get xs j ≡ Some y → is_before (key x) (key y) ≡ true

module _ {A : Type 0} (key : A → List ℕ) where
  -- the head comes before each item of the tail
  head_first : (x : A) (xs : List A) → IsOrdered key (x ∷ xs) → (y : A) → Contains xs y → is_before (key x) (key y) ≡ true
  head_first x xs o y i = o 0 (suc i.0) x y (omega arith) refl (in_slice xs y i)

  tail_ordered : (x : A) (xs : List A) → IsOrdered key (x ∷ xs) → IsOrdered key xs
  tail_ordered x xs o i j y z l h k = o (suc i) (suc j) y z (omega arith) h k

  not_self : (x : A) (xs : List A) → IsOrdered key (x ∷ xs) → Contains xs x → ⊥
  not_self x xs o i = both_ways (is_before (key x) (key x)) (never_before (key x)) (head_first x xs o x i)

  -- ordered lists of the same items are one
  same_list : (xs ys : List A) → IsOrdered key xs → IsOrdered key ys → ((z : A) → Contains xs z → Contains ys z) → ((z : A) → Contains ys z → Contains xs z) → xs ≡ ys
  same_list [] [] o p f g = refl
  same_list [] (y ∷ ys) o p f g = absurd (omega (arith, (g y (0, omega arith, refl)).1))
  same_list (x ∷ xs) [] o p f g = absurd (omega (arith, (f x (0, omega arith, refl)).1))
  same_list (x ∷ xs) (y ∷ ys) o p f g = ap₂ (λ z zs. z ∷ zs) heads (same_list xs ys (tail_ordered x xs o) (tail_ordered y ys p) there back)
    where
      heads : x ≡ y
      heads = elim (parts y ys x (f x (0, omega arith, refl))) [
        | inl e ↦ sym e
        | inr i ↦ elim (parts x xs y (g y (0, omega arith, refl))) [
          | inl e ↦ e
          | inr j ↦ absurd (one_before (key x) (key y) (head_first x xs o y j) (head_first y ys p x i))
        ]
      ]

      there : (z : A) → Contains xs z → Contains ys z
      there z i = elim (parts y ys z (f z (later x xs z i))) [
        | inl e ↦ absurd (not_self x xs o (subst (Contains xs) (sym e ∙ sym heads) i))
        | inr j ↦ j
      ]

      back : (z : A) → Contains ys z → Contains xs z
      back z i = elim (parts x xs z (g z (later y ys z i))) [
        | inl e ↦ absurd (not_self y ys p (subst (Contains ys) (sym e ∙ heads) i))
        | inr j ↦ j
      ]

  pub one_list : (P : A → Type 0) (xs ys : List A) → IsAll P key xs → IsAll P key ys → xs ≡ ys
  one_list P xs ys h k = same_list xs ys h.ordered k.ordered (λ z i. k.all z (h.only z i)) (λ z i. h.all z (k.only z i))
