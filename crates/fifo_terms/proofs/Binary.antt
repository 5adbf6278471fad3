-- The low bits of numbers that go on: the next one, half a round on, and that they tell the number within a round.
use Rattle.std.proofs.Common.{◌≡◌, ◌≢◌, ℕ, zero, suc, ◌+◌, ◌-◌, ◌*◌, ◌^◌, ◌/◌, ◌%◌, ◌<◌, ◌≤◌, ◌==◌, Bool, true, false, not, List, [], ◌∷◌, length, refl, sym, ap, ap₂, ◌∙◌, arith, pow-suc, eqb-true}
use Rattle.std.proofs.lemmas.Bool.{eqb-false}
use Rattle.cdc_model.specs.Gray.{increment, gray_code}
use Rattle.fifo_terms.specs.Counts.{number_of, top_inverted, binary}
use Rattle.fifo_terms.proofs.Numbers.{code_tells, half_round}

pub binary_length : (w n : ℕ) → length (binary w n) ≡ w
binary_length zero n = refl
binary_length (suc w) n = ap (λ k. suc k) (binary_length w (n / 2))

-- a test of the lowest bit, by what it is
odd : (n : ℕ) → n % 2 ≡ 1 → (n % 2 == 1) ≡ true
odd n e = ap (λ k. k == 1) e

even : (n : ℕ) → n % 2 ≡ 0 → (n % 2 == 1) ≡ false
even n e = ap (λ k. k == 1) e

is_odd : (n : ℕ) → (n % 2 == 1) ≡ true → n % 2 ≡ 1
is_odd n e = eqb-true (n % 2) 1 e

is_even : (n : ℕ) → (n % 2 == 1) ≡ false → n % 2 ≡ 0
is_even n e = let p : n % 2 ≢ 1 = eqb-false (n % 2) 1 e in omega (arith, p)

-- the next word is that of the next number
pub next_binary : (w n : ℕ) → increment (binary w n) ≡ binary w (n + 1)
next_binary zero n = refl
next_binary (suc w) n = go (n % 2 == 1) refl (next_binary w (n / 2))
  where
    go : (b : Bool) → (n % 2 == 1) ≡ b → increment (binary w (n / 2)) ≡ binary w (n / 2 + 1) → increment (b ∷ binary w (n / 2)) ≡ ((n + 1) % 2 == 1) ∷ binary w ((n + 1) / 2)
    go true e h = let o : n % 2 ≡ 1 = is_odd n e in
        ap₂ (λ x xs. x ∷ xs) (sym (even (n + 1) (omega (arith, o)))) (h ∙ ap (binary w) (let q : n / 2 + 1 ≡ (n + 1) / 2 = omega (arith, o) in q))
    go false e h = let o : n % 2 ≡ 0 = is_even n e in
        ap₂ (λ x xs. x ∷ xs) (sym (odd (n + 1) (omega (arith, o)))) (ap (binary w) (let q : n / 2 ≡ (n + 1) / 2 = omega (arith, o) in q))

-- half a round on, the highest bit is inverted
pub half_binary : (w n : ℕ) → top_inverted (binary (suc w) n) ≡ binary (suc w) (n + 2 ^ w)
half_binary zero n = go (n % 2 == 1) refl
  where
    go : (b : Bool) → (n % 2 == 1) ≡ b → not b ∷ [] ≡ ((n + 1) % 2 == 1) ∷ []
    go true e = let o : n % 2 ≡ 1 = is_odd n e in ap (λ x. x ∷ []) (sym (even (n + 1) (omega (arith, o))))
    go false e = let o : n % 2 ≡ 0 = is_even n e in ap (λ x. x ∷ []) (sym (odd (n + 1) (omega (arith, o))))
half_binary (suc w) n = rw pow-suc (ap₂ (λ x xs. x ∷ xs) (ap (λ k. k == 1) (let q : n % 2 ≡ (n + 2 ^ w * 2) % 2 = omega arith in q))
    (half_binary w (n / 2) ∙ ap (binary (suc w)) (let q : n / 2 + 2 ^ w ≡ (n + 2 ^ w * 2) / 2 = omega arith in q)))

heads : (a b : Bool) (xs ys : List Bool) → a ∷ xs ≡ b ∷ ys → a ≡ b
heads a b xs ys e = cc

tails : (a b : Bool) (xs ys : List Bool) → a ∷ xs ≡ b ∷ ys → xs ≡ ys
tails a b xs ys e = cc

same_parity : (m n : ℕ) → (m % 2 == 1) ≡ (n % 2 == 1) → m % 2 ≡ n % 2
same_parity m n e = go (m % 2 == 1) (n % 2 == 1) refl refl e
  where
    go : (a b : Bool) → (m % 2 == 1) ≡ a → (n % 2 == 1) ≡ b → a ≡ b → m % 2 ≡ n % 2
    go true true p q r = is_odd m p ∙ sym (is_odd n q)
    go true false p q r = cc
    go false true p q r = cc
    go false false p q r = is_even m p ∙ sym (is_even n q)

-- within a round the word tells the number
pub binary_tells : (w m n : ℕ) → binary w m ≡ binary w n → m ≤ n → n < m + 2 ^ w → m ≡ n
binary_tells zero m n e l h = omega (arith, l, h)
binary_tells (suc w) m n e l h = let p : m % 2 ≡ n % 2 = same_parity m n (heads (m % 2 == 1) (n % 2 == 1) (binary w (m / 2)) (binary w (n / 2)) e) in
    let k : n < m + 2 ^ w * 2 = rw (sym (pow-suc 2 w)) h in
    let q : m / 2 ≡ n / 2 = binary_tells w (m / 2) (n / 2) (tails (m % 2 == 1) (n % 2 == 1) (binary w (m / 2)) (binary w (n / 2)) e) (omega (arith, l)) (omega (arith, k, p)) in
    omega (arith, p, q)

-- so does its Gray code
pub code_binary : (w m n : ℕ) → gray_code (binary w m) ≡ gray_code (binary w n) → binary w m ≡ binary w n
code_binary w m n e = code_tells (binary w m) (binary w n) (binary_length w m ∙ sym (binary_length w n)) e

-- half a round on, as a number
pub half_number : (w n : ℕ) → number_of (binary (suc w) (n + 2 ^ w)) ≡ (number_of (binary (suc w) n) + 2 ^ w) % 2 ^ suc w
half_number w n = ap number_of (sym (half_binary w n)) ∙ half_round (binary (suc w) n) (let e : length (binary (suc w) n) ≡ suc w = binary_length (suc w) n in omega (arith, e))
    ∙ ap (λ k. (number_of (binary (suc w) n) + 2 ^ (k - 1)) % 2 ^ k) (binary_length (suc w) n) ∙ ap (λ k. (number_of (binary (suc w) n) + 2 ^ k) % 2 ^ suc w) (let e : suc w - 1 ≡ w = omega arith in e)
