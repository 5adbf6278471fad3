-- Lists that a loop sifts: those of the items so far of which a fact holds.
use Rattle.std.proofs.Common.{◌≡◌, ◌↔◌, sym, subst, refl, inl, inr, ◌⊎◌, arith, append-nil, ℕ, suc, ◌+◌, ◌<◌, ◌≤◌, List, [], ◌∷◌, ◌++◌, length}
use Rattle.std.proofs.Common.{get_or, take, drop, Contains}
use Rattle.std.proofs.lemmas.List.{drop_all, drop_more, take_all, take_more}
use Rattle.std.proofs.lemmas.List.Elements.{Contains-append_cases, Contains-append_left, Contains-append_right, Contains-push, Contains-push_cases}
use mathlib.Core.List.{append_assoc}
use Rattle.cdc_model.specs.Ordered.{IsAscending}
use Rattle.cdc_model.proofs.Ascending.{Ascends, ascending, later}
use Rattle.cdc_model.proofs.Justify.{in_slice}

module _ {A : Type 0} (xs : List A) (i : ℕ) (d : A) (l : i < length xs) where
  -- what is among the items so far and the next one
  pub so_far_cases : (x : A) → Contains (take (i + 1) xs) x → Contains (take i xs) x ⊎ (get_or xs i d ≡ x)
  so_far_cases x h = Contains-push_cases (take i xs) (get_or xs i d) x (subst (λ ys. Contains ys x) (take_more xs i d l) h)

  pub still_so_far : (x : A) → Contains (take i xs) x → Contains (take (i + 1) xs) x
  still_so_far x h = subst (λ ys. Contains ys x) (sym (take_more xs i d l)) (Contains-append_left (take i xs) (get_or xs i d ∷ []) x h)

  pub next_so_far : Contains (take (i + 1) xs) (get_or xs i d)
  next_so_far = subst (λ ys. Contains ys (get_or xs i d)) (sym (take_more xs i d l)) (Contains-push (take i xs) (get_or xs i d))

-- the list has exactly those of the items of which P holds
abbrev pub AreSifted : {A : Type 0} → (A → Type 0) → List A → List A → Type 0
AreSifted {A} P xs ys = (x : A) → Contains ys x ↔ (Contains xs x × P x)

module _ {A : Type 0} (P : A → Type 0) (xs : List A) (i : ℕ) (d : A) (l : i < length xs) (ys : List A) (so_far : AreSifted P (take i xs) ys) where
  -- the next item among them, and left out
  pub sifted_in : P (get_or xs i d) → AreSifted P (take (i + 1) xs) (ys ++ get_or xs i d ∷ [])
  sifted_in p y = (
    λ h. elim (Contains-push_cases ys (get_or xs i d) y h) [
      | inl j ↦ let k = (so_far y).0 j in (still_so_far xs i d l y k.0, k.1)
      | inr e ↦ (subst (Contains (take (i + 1) xs)) e (next_so_far xs i d l), subst P e p)
    ],
    λ h. elim (so_far_cases xs i d l y h.0) [
      | inl j ↦ Contains-append_left ys (get_or xs i d ∷ []) y ((so_far y).1 (j, h.1))
      | inr e ↦ subst (Contains (ys ++ get_or xs i d ∷ [])) e (Contains-push ys (get_or xs i d))
    ],
  )

  pub sifted_out : (P (get_or xs i d) → ⊥) → AreSifted P (take (i + 1) xs) ys
  sifted_out p y = (
    λ h. let k = (so_far y).0 h in (still_so_far xs i d l y k.0, k.1),
    λ h. elim (so_far_cases xs i d l y h.0) [
      | inl j ↦ (so_far y).1 (j, h.1)
      | inr e ↦ absurd (p (subst P (sym e) h.1))
    ],
  )

-- in the end they are those of all items
pub all_sifted : {A : Type 0} (P : A → Type 0) (xs : List A) (i : ℕ) (ys : List A) → length xs ≤ i → AreSifted P (take i xs) ys → AreSifted P xs ys
all_sifted P xs i ys l = subst (λ zs. AreSifted P zs ys) (take_all i xs l)

module _ {A : Type 0} (key : A → List ℕ) where
  ascends : (xs : List A) → IsAscending key xs → Ascends key xs
  ascends [] h = tt
  ascends (x ∷ xs) h = (
    λ y i. h 0 (suc i.0) x y (omega arith) refl (in_slice xs y i),
    ascends xs
        (λ i j a b l e f. h (suc i) (suc j) a b (omega arith) e f),
  )

  without : (ys : List A) (x : A) (zs : List A) → Ascends key (ys ++ x ∷ zs) → Ascends key (ys ++ zs)
  without [] x zs h = h.1
  without (y ∷ ys) x zs h = (
    λ w i. h.0 w (elim (Contains-append_cases ys zs w i) [
      | inl j ↦ Contains-append_left ys (x ∷ zs) w j
      | inr j ↦ Contains-append_right ys (x ∷ zs) w (later x zs w j)
    ]),
    without ys x zs h.1,
  )

  module _ (xs : List A) (i : ℕ) (d : A) (l : i < length xs) (ys : List A) (up : IsAscending key (ys ++ drop i xs)) where
    from_next : IsAscending key (ys ++ get_or xs i d ∷ drop (i + 1) xs)
    from_next = subst (λ zs. IsAscending key (ys ++ zs)) (drop_more xs i d l) up

    -- with the next item, and without it, those that were chosen ascend, up to the items to come
    pub chosen_ascend : IsAscending key ((ys ++ get_or xs i d ∷ []) ++ drop (i + 1) xs)
    chosen_ascend = subst (IsAscending key) (sym (append_assoc ys (get_or xs i d ∷ []) (drop (i + 1) xs))) from_next

    pub others_ascend : IsAscending key (ys ++ drop (i + 1) xs)
    others_ascend = ascending key (ys ++ drop (i + 1) xs)
        (without ys (get_or xs i d) (drop (i + 1) xs) (ascends (ys ++ get_or xs i d ∷ drop (i + 1) xs) from_next))

  pub chosen_all : (xs : List A) (i : ℕ) (ys : List A) → length xs ≤ i → IsAscending key (ys ++ drop i xs) → IsAscending key ys
  chosen_all xs i ys l up = subst (IsAscending key) (append-nil ys) (subst (λ zs. IsAscending key (ys ++ zs)) (drop_all i xs l) up)
