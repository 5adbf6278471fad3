-- Things that are gathered from a list, one item after the other.
use Rattle.std.proofs.Common.{◌≡◌, ◌∙◌, ◌↔◌, sym, ap, subst, refl, inl, inr, ◌⊎◌, ℕ, zero, suc, ◌+◌, ◌<◌, ◌≤◌, Option, Some, None, List, [], ◌∷◌, ◌++◌, length, get_or, take, Contains}
use Rattle.std.specs.Option.{option_to_list}
use Rattle.std.proofs.lemmas.List.{take_more, take_all}
use Rattle.std.proofs.lemmas.List.Elements.{Contains-append_left, Contains-append_right, Contains-append_cases, Contains-push, Contains-push_cases}
use Rattle.cdc_model.proofs.Ascending.{here, later, nothing_in, parts}
use Rattle.fifo_scheme.specs.Met.{AreGathered, IsOne}

pub no_more : {B : Type 0} (ys : List B) → ys ++ [] ≡ ys
no_more [] = refl
no_more (y ∷ ys) = ap (λ zs. y ∷ zs) (no_more ys)

module _ {A B : Type 0} (F : A → B → Type 0) where
  pub gathered_none : AreGathered F [] []
  gathered_none y = (λ h. absurd (nothing_in y h), λ h. absurd (nothing_in h.0 h.1))

  pub gathered_more : (xs : List A) (i : ℕ) (d : A) (old new : List B) (o : Option B) → i < length xs → AreGathered F (take i xs) old → IsOne (F (get_or xs i d)) o
      → new ≡ old ++ option_to_list o → AreGathered F (take (i + 1) xs) new
  gathered_more xs i d old new o l h is e y = (
    λ k. elim (Contains-append_cases old (option_to_list o) y (subst (λ (zs : List B). Contains zs y) e k)) [
      | inl a ↦ let g = (h y).0 a in (g.0, subst (λ (zs : List A). Contains zs g.0) (sym (take_more xs i d l)) (Contains-append_left (take i xs) (get_or xs i d ∷ []) g.0 g.1), g.2)
      | inr a ↦ (get_or xs i d, subst (λ (zs : List A). Contains zs (get_or xs i d)) (sym (take_more xs i d l)) (Contains-push (take i xs) (get_or xs i d)), there o is a)
    ],
    λ k. subst (λ (zs : List B). Contains zs y) (sym e)
        (elim (Contains-push_cases (take i xs) (get_or xs i d) k.0 (subst (λ (zs : List A). Contains zs k.0) (take_more xs i d l) k.1)) [
          | inl a ↦ Contains-append_left old (option_to_list o) y ((h y).1 (k.0, a, k.2))
          | inr a ↦ Contains-append_right old (option_to_list o) y (back o is (subst (λ (x : A). F x y) (sym a) k.2))
        ]),
  )
    where
      there : (o : Option B) → IsOne (F (get_or xs i d)) o → Contains (option_to_list o) y → F (get_or xs i d) y
      there None is a = absurd (nothing_in y a)
      there (Some z) is a = elim (parts z [] y a) [
        | inl same ↦ subst (F (get_or xs i d)) same is.0
        | inr b ↦ absurd (nothing_in y b)
      ]

      back : (o : Option B) → IsOne (F (get_or xs i d)) o → F (get_or xs i d) y → Contains (option_to_list o) y
      back None is f = absurd (is y f)
      back (Some z) is f = subst (λ (w : B). Contains (w ∷ []) y) (is.1 y f) (here y [])

  pub gathered_one : (xs : List A) (i : ℕ) (d : A) (old new : List B) (o : Option B) (z : B) → i < length xs → AreGathered F (take i xs) old → IsOne (F (get_or xs i d)) o → o ≡ Some z
      → new ≡ old ++ z ∷ [] → AreGathered F (take (i + 1) xs) new
  gathered_one xs i d old new o z l h is e p = gathered_more xs i d old new (Some z) l h (subst (IsOne (F (get_or xs i d))) e is) p

  pub gathered_skip : (xs : List A) (i : ℕ) (d : A) (old new : List B) (o : Option B) → i < length xs → AreGathered F (take i xs) old → IsOne (F (get_or xs i d)) o → o ≡ None
      → new ≡ old → AreGathered F (take (i + 1) xs) new
  gathered_skip xs i d old new o l h is e p = gathered_more xs i d old new None l h (subst (IsOne (F (get_or xs i d))) e is) (p ∙ sym (no_more old))

  pub gathered_add : (xs : List A) (i : ℕ) (d : A) (old new : List B) → i < length xs → AreGathered F (take i xs) old → ((y : B) → Contains new y ↔ (Contains old y ⊎ F (get_or xs i d) y))
      → AreGathered F (take (i + 1) xs) new
  gathered_add xs i d old new l h added y = (
    λ k. elim ((added y).0 k) [
      | inl a ↦ let g = (h y).0 a in (g.0, subst (λ (zs : List A). Contains zs g.0) (sym (take_more xs i d l)) (Contains-append_left (take i xs) (get_or xs i d ∷ []) g.0 g.1), g.2)
      | inr a ↦ (get_or xs i d, subst (λ (zs : List A). Contains zs (get_or xs i d)) (sym (take_more xs i d l)) (Contains-push (take i xs) (get_or xs i d)), a)
    ],
    λ k. (added y).1 (elim (Contains-push_cases (take i xs) (get_or xs i d) k.0 (subst (λ (zs : List A). Contains zs k.0) (take_more xs i d l) k.1)) [
      | inl a ↦ inl ((h y).1 (k.0, a, k.2))
      | inr a ↦ inr (subst (λ (x : A). F x y) (sym a) k.2)
    ]),
  )

  pub gathered_all : (xs : List A) (i : ℕ) (ys : List B) → length xs ≤ i → AreGathered F (take i xs) ys → AreGathered F xs ys
  gathered_all xs i ys l h = subst (λ (zs : List A). AreGathered F zs ys) (take_all i xs l) h

-- what is among the first items is in the list
pub in_taken : {A : Type 0} (xs : List A) (k : ℕ) (x : A) → Contains (take k xs) x → Contains xs x
in_taken xs zero x h = absurd (nothing_in x h)
in_taken [] (suc k) x h = absurd (nothing_in x h)
in_taken (y ∷ ys) (suc k) x h = elim (parts y (take k ys) x h) [
  | inl e ↦ subst (Contains (y ∷ ys)) e (here y ys)
  | inr i ↦ later y ys x (in_taken ys k x i)
]
