-- Lists that a loop adds to.
use Rattle.std.proofs.Common.{◌≡◌, ◌⊎◌, ◌↔◌, ◌∙◌, inl, inr, sym, ap, subst, arith, append_assoc, drop, Bool, true, false, cond, ℕ, ◌+◌, ◌<◌, ◌≤◌, Some, Option, List, [], ◌∷◌, ◌++◌, get_or, length, slice_get, Contains}
use Rattle.std.specs.List.Sorted.{IsPermutation}
use Rattle.std.specs.Prelude.{filter}
use Rattle.std.proofs.lemmas.Bool.{cases_lt}
use Rattle.std.proofs.lemmas.List.{drop_more}
use Rattle.std.proofs.lemmas.List.Sorted.{Contains-permutation, IsPermutation-sym}
use Rattle.std.proofs.lemmas.Option.{slice_get-get_or}
use Rattle.std.proofs.lemmas.List.Elements.{Contains-append_left, Contains-append_right, Contains-append_cases}
use Rattle.cdc_model.proofs.Ascending.{here, parts, nothing_in}
use Rattle.cdc_model.proofs.Justify.{slice_in, in_slice}

-- some number from low up to n has the property
abbrev pub HasOneWithin : ℕ → ℕ → (ℕ → Type 0) → Type 0
HasOneWithin low n Q = (i : ℕ) × (low ≤ i) × (i < n) × Q i

pub none_within : {A : Type 0} (low : ℕ) (Q : ℕ → Type 0) → A ↔ (A ⊎ HasOneWithin low low Q)
none_within low Q = (λ a. inl a, λ s. elim s [ inl a ↦ a | inr h ↦ absurd (let l = h.1 in let m = h.2 in omega arith) ])

pub one_more : {A X Y : Type 0} (Q : ℕ → Type 0) (low n : ℕ) → low ≤ n → X ↔ (A ⊎ HasOneWithin low n Q) → Y ↔ (X ⊎ Q n) → Y ↔ (A ⊎ HasOneWithin low (n + 1) Q)
one_more Q low n l f g = (
  λ y. elim (g.0 y) [
    | inl x ↦ elim (f.0 x) [ inl a ↦ inl a | inr h ↦ inr (h.0, h.1, (let m = h.2 in omega arith), h.3) ]
    | inr q ↦ inr (n, l, omega arith, q)
  ],
  λ s. elim s [
    | inl a ↦ g.1 (inl (f.1 (inl a)))
    | inr h ↦ elim (cases_lt h.0 n) [
      | inl m ↦ g.1 (inl (f.1 (inr (h.0, h.1, m, h.3))))
      | inr m ↦ g.1 (inr (subst Q (let k = h.2 in let e : h.0 ≡ n = omega arith in e) h.3))
    ]
  ],
)

pub same_item : {A : Type 0} (o : Option A) (x y : A) → o ≡ Some x → o ≡ Some y → x ≡ y
same_item o x y e f = cc

-- one of the first n items has the property
abbrev pub HasItemWithin : {B : Type 0} → List B → ℕ → (B → Type 0) → Type 0
HasItemWithin {B} items n R = HasOneWithin 0 n (λ i. (y : B) × (slice_get items i ≡ Some y) × R y)

pub item_more : {A X Y B : Type 0} (items : List B) (R : B → Type 0) (n : ℕ) (d : B) → n < length items → X ↔ (A ⊎ HasItemWithin items n R) → Y ↔ (X ⊎ R (get_or items n d))
    → Y ↔ (A ⊎ HasItemWithin items (n + 1) R)
item_more {A} {X} {Y} {B} items R n d l f g = one_more (λ i. (y : B) × (slice_get items i ≡ Some y) × R y) 0 n (omega arith) f (
  λ y. elim (g.0 y) [ inl x ↦ inl x | inr r ↦ inr (get_or items n d, slice_get-get_or items n d l, r) ],
  λ s. g.1 (elim s [ inl x ↦ inl x | inr h ↦ inr (subst R (same_item (slice_get items n) h.0 (get_or items n d) h.1 (slice_get-get_or items n d l)) h.2) ]),
)

pub items_all : {A X B : Type 0} (items : List B) (R : B → Type 0) (n : ℕ) → length items ≤ n → X ↔ (A ⊎ HasItemWithin items n R) → X ↔ (A ⊎ ((y : B) × Contains items y × R y))
items_all items R n l f = (
  λ x. elim (f.0 x) [ inl a ↦ inl a | inr h ↦ inr (h.3.0, slice_in items h.0 h.3.0 h.3.1, h.3.2) ],
  λ s. f.1 (elim s [ inl a ↦ inl a | inr h ↦ inr (h.1.0, omega arith, (let m = h.1.1 in omega arith), (h.0, in_slice items h.0 h.1, h.2)) ]),
)

-- what isn't there from the start has been added
pub all_added : {A X Y : Type 0} → (A → ⊥) → X ↔ (A ⊎ Y) → X ↔ Y
all_added none f = (λ x. elim (f.0 x) [ inl a ↦ absurd (none a) | inr y ↦ y ], λ y. f.1 (inr y))

pub none_added : {A Y : Type 0} → (Y → ⊥) → A ↔ (A ⊎ Y)
none_added none = (λ a. inl a, λ s. elim s [ inl a ↦ a | inr y ↦ absurd (none y) ])

pub in_none : {A : Type 0} (xs : List A) (x : A) → xs ≡ [] → Contains xs x → ⊥
in_none xs x e i = nothing_in x (subst (λ ys. Contains ys x) e i)

pub both_iff : {A B C : Type 0} → A ↔ B → B ↔ C → A ↔ C
both_iff f g = (λ a. g.0 (f.0 a), λ c. f.1 (g.1 c))

pub same_left : {A B Y : Type 0} → B ↔ (A ⊎ Y) → (Z : Type 0) → Y ↔ Z → B ↔ (A ⊎ Z)
same_left f Z g = (λ b. elim (f.0 b) [ inl a ↦ inl a | inr y ↦ inr (g.0 y) ], λ s. f.1 (elim s [ inl a ↦ inl a | inr z ↦ inr (g.1 z) ]))

-- what stands in a list with more behind it
pub in_joined : {A : Type 0} (xs ys zs : List A) (x : A) → zs ≡ xs ++ ys → Contains zs x ↔ (Contains xs x ⊎ Contains ys x)
in_joined xs ys zs x e = (
  λ i. Contains-append_cases xs ys x (subst (λ l. Contains l x) e i),
  λ s. subst (λ l. Contains l x) (sym e) (elim s [ inl i ↦ Contains-append_left xs ys x i | inr i ↦ Contains-append_right xs ys x i ]),
)

pub in_pushed : {A : Type 0} (xs zs : List A) (y x : A) → zs ≡ xs ++ y ∷ [] → Contains zs x ↔ (Contains xs x ⊎ (y ≡ x))
in_pushed xs zs y x e = same_left (in_joined xs (y ∷ []) zs x e) (y ≡ x) (
  λ i. elim (parts y [] x i) [ inl f ↦ f | inr j ↦ absurd (nothing_in x j) ],
  λ f. subst (λ z. Contains (y ∷ []) z) f (here y []),
)

pub in_permuted : {A : Type 0} (xs ys : List A) (x : A) → IsPermutation xs ys → Contains ys x ↔ Contains xs x
in_permuted xs ys x h = (λ i. Contains-permutation ys xs x (IsPermutation-sym xs ys h) i, λ i. Contains-permutation xs ys x h i)

-- ---- items that pass a test

pub kept_more : {A : Type 0} (test : A → Bool) (all old new xs : List A) (i : ℕ) (d : A) → i < length xs → all ≡ old ++ filter test (drop i xs)
    → new ≡ old ++ cond (test (get_or xs i d)) (get_or xs i d ∷ []) [] → all ≡ new ++ filter test (drop (i + 1) xs)
kept_more {A} test all old new xs i d l h e =
    h ∙ ap (λ ys. old ++ filter test ys) (drop_more xs i d l) ∙ go (test (get_or xs i d)) ∙ ap (λ ys. ys ++ filter test (drop (i + 1) xs)) (sym e)
  where
    go : (v : Bool) → old ++ cond v (get_or xs i d ∷ filter test (drop (i + 1) xs)) (filter test (drop (i + 1) xs)) ≡ (old ++ cond v (get_or xs i d ∷ []) []) ++ filter test (drop (i + 1) xs)
    go true = sym (append_assoc old (get_or xs i d ∷ []) (filter test (drop (i + 1) xs)))
    go false = sym (append_assoc old [] (filter test (drop (i + 1) xs)))
