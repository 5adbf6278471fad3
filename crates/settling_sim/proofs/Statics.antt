-- A search among ascending signals.
use Rattle.std.proofs.Common.{◌≡◌, ◌≢◌, ◌∙◌, ℕ, zero, suc, ◌+◌, ◌<◌, ◌≤◌, ◌==◌, Bool, true, false, ◌||◌, List, [], ◌∷◌, length, get_or, Result, Ok, Err, refl, sym, ap, arith, eqb-true, eq-eqb, ltb-true, ltb-false, nat_lt, ◌⊎◌, inl, inr}
use Rattle.std.specs.Prelude.{MatchResult, AllPairs}
use Rattle.std.specs.List.{list_any}
use Rattle.std.specs.List.Sorted.{IsStrictlyIncreasing}
use Rattle.std.proofs.lemmas.Bool.{cases_eq, eqb-false}
use Rattle.std.proofs.lemmas.List.Kept.{AllPairs-from_increasing}

or-yes : (b : Bool) → (b || true) ≡ true
or-yes true = refl
or-yes false = refl

listed : (xs : List ℕ) (x k : ℕ) → k < length xs → get_or xs k 0 ≡ x → list_any (λ s. s == x) xs ≡ true
listed [] x k h e = absurd (omega arith)
listed (y ∷ xs) x zero h e = ap (λ t. t || list_any (λ s. s == x) xs) (eq-eqb y x e)
listed (y ∷ xs) x (suc k) h e = ap (λ t. (y == x) || t) (listed xs x k (omega arith) e) ∙ or-yes (y == x)

unlisted : (xs : List ℕ) (x : ℕ) → ((k : ℕ) → k < length xs → get_or xs k 0 ≢ x) → list_any (λ s. s == x) xs ≡ false
unlisted [] x h = refl
unlisted (y ∷ xs) x h = go (y == x) refl (unlisted xs x (λ k l. h (suc k) (omega arith)))
  where
    go : (t : Bool) → (y == x) ≡ t → list_any (λ s. s == x) xs ≡ false → (t || list_any (λ s. s == x) xs) ≡ false
    go true e rest = absurd (h zero (omega arith) (eqb-true y x e))
    go false e rest = rest

-- numbers that rise don't fall
pub rising : (xs : List ℕ) → IsStrictlyIncreasing xs → (i j : ℕ) → i ≤ j → j < length xs → get_or xs i 0 ≤ get_or xs j 0
rising xs h i j l m = elim (cases_eq i j) [
  | inl e ↦ let same : get_or xs i 0 ≡ get_or xs j 0 = ap (λ k. get_or xs k 0) e in omega arith
  | inr ne ↦ let less = AllPairs-from_increasing xs h i j 0 (omega (arith, ne)) m in omega arith
]

abbrev pub is_found : Result ℕ ℕ → Bool
is_found (Ok i) = true
is_found (Err i) = false

pub found-listed : (xs : List ℕ) (x : ℕ) (r : Result ℕ ℕ)
    → MatchResult r (λ i. (i < length xs) × (get_or xs i 0 ≡ x)) (λ i. (i ≤ length xs) × ((k : ℕ) → k < i → get_or xs k 0 < x) × ((k : ℕ) → i ≤ k → k < length xs → x < get_or xs k 0))
    → is_found r ≡ list_any (λ s. s == x) xs
found-listed xs x (Ok i) h = sym (listed xs x i h.0 h.1)
found-listed xs x (Err i) h = sym (unlisted xs x (λ k l e. apart k l e (nat_lt k i) refl))
  where
    apart : (k : ℕ) → k < length xs → get_or xs k 0 ≡ x → (t : Bool) → nat_lt k i ≡ t → ⊥
    apart k l e true f = let less = h.1 k (ltb-true k i f) in omega arith
    apart k l e false f = let more = h.2 k (ltb-false k i f) l in omega arith
