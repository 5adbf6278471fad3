-- What holds of the items of a list to come.
use Rattle.std.proofs.Common.{◌≡◌, ◌∙◌, ◌↔◌, ◌⊎◌, sym, ap, subst, refl, inl, inr, arith, ℕ, zero, suc, ◌+◌, ◌<◌, ◌&&◌, Bool, true, false, length, List, [], ◌∷◌, ◌++◌, Contains, get_or, drop, take}
use Rattle.std.specs.List.{AllByRecursion}
use Rattle.std.proofs.lemmas.List.{drop_more, take_more}
use Rattle.std.proofs.lemmas.List.Elements.{Contains-append_left, Contains-push, Contains-push_cases}
use Rattle.cell_graph.specs.Tree.{all_below}
use Rattle.cdc_model.proofs.Ascending.{parts}

pub all_next : {X : Type 0} (P : X → Type 0) (xs : List X) (i : ℕ) (d : X) → i < length xs → AllByRecursion P (drop i xs)
    ↔ (P (get_or xs i d) × AllByRecursion P (drop (i + 1) xs))
all_next P xs i d l = (subst (AllByRecursion P) (drop_more xs i d l), subst (AllByRecursion P) (sym (drop_more xs i d l)))

pub some_next : {X : Type 0} (P : X → Type 0) (xs : List X) (i : ℕ) (d : X) → i < length xs → (P (get_or xs i d) → ⊥) → (x : X)
    × Contains (drop i xs) x × P x → (x : X) × Contains (drop (i + 1) xs) x × P x
some_next P xs i d l none (x, h, p) = elim (parts (get_or xs i d) (drop (i + 1) xs) x (subst (λ ys. Contains ys x) (drop_more xs i d l) h)) [
  | inl e ↦ absurd (none (subst P (sym e) p))
  | inr j ↦ (x, j, p)
]

pub some_false : (f : ℕ → Bool) (n i : ℕ) → i < n → f i ≡ false → all_below f n ≡ false
some_false f zero i l e = absurd (omega arith)
some_false f (suc n) i l e = elim (last_or_before i n l) [
  | inl same ↦ go (all_below f n) (f n) (ap f (sym same) ∙ e)
  | inr lt ↦ ap (λ p. p && f n) (some_false f n i lt e)
]
  where
    last_or_before : (a b : ℕ) → a < suc b → (a ≡ b) ⊎ (a < b)
    last_or_before a b h = grind arith

    go : (p q : Bool) → q ≡ false → (p && q) ≡ false
    go true q h = h
    go false q h = refl

module _ {X : Type 0} (P : X → ℕ → Type 0) (xs : List X) (i : ℕ) (d : X) (l : i < length xs) (old : List ℕ)
    (so : (n : ℕ) → Contains old n ↔ ((x : X) × Contains (take i xs) x × P x n)) where
  abbrev More : ℕ → Type 0
  More n = (x : X) × Contains (take (i + 1) xs) x × P x n

  kept : (n : ℕ) → (x : X) × Contains (take i xs) x × P x n → More n
  kept n (x, h, p) = (x, subst (λ ys. Contains ys x) (sym (take_more xs i d l)) (Contains-append_left (take i xs) (get_or xs i d ∷ []) x h), p)

  here : (n : ℕ) → P (get_or xs i d) n → More n
  here n p = (get_or xs i d, subst (λ ys. Contains ys (get_or xs i d)) (sym (take_more xs i d l)) (Contains-push (take i xs) (get_or xs i d)), p)

  cases : (n : ℕ) → More n → ((x : X) × Contains (take i xs) x × P x n) ⊎ P (get_or xs i d) n
  cases n (x, h, p) = elim (Contains-push_cases (take i xs) (get_or xs i d) x (subst (λ ys. Contains ys x) (take_more xs i d l) h)) [
    | inl j ↦ inl (x, j, p)
    | inr e ↦ inr (subst (λ y. P y n) (sym e) p)
  ]

  pub none_more : ((n : ℕ) → P (get_or xs i d) n → ⊥) → (n : ℕ) → Contains old n ↔ More n
  none_more none n = (λ h. kept n ((so n).0 h), λ m. elim (cases n m) [ inl k ↦ (so n).1 k | inr p ↦ absurd (none n p) ])

  pub one_more : (k : ℕ) → ((n : ℕ) → (k ≡ n) ↔ P (get_or xs i d) n) → (n : ℕ) → Contains (old ++ k ∷ []) n ↔ More n
  one_more k is n = (
    λ h. elim (Contains-push_cases old k n h) [ inl j ↦ kept n ((so n).0 j) | inr e ↦ here n ((is n).0 e) ],
    λ m. elim (cases n m) [
      | inl j ↦ Contains-append_left old (k ∷ []) n ((so n).1 j)
      | inr p ↦ subst (Contains (old ++ k ∷ [])) ((is n).1 p)
          (Contains-push old k)
    ],
  )
