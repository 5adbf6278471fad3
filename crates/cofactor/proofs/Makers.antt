-- The words that a walk asks for, and what cells are made of.
use Rattle.std.proofs.Common.{◌≡◌, ◌∙◌, sym, ap, refl, arith, ℕ, zero, suc, ◌+◌, ◌-◌, ◌*◌, ◌/◌, ◌%◌, ◌^◌, ◌<◌, ◌≤◌, ◌==◌, min, Bool, true, false, cond, nat_lt, ltb-true, ltb-false, lt-ltb}
use Rattle.std.proofs.lemmas.Nat.{leading_top}
use Rattle.std.proofs.lemmas.Nat.Bits.{bit_at-suc}
use Rattle.std.proofs.Math.Nat.{div-eq_of_lt-le, pow-suc}
use lib.Count.{count_leading_zeros, count_trailing_zeros, under}
use Rattle.cell_graph.specs.Tree.{bit_at}
use Rattle.cell_graph.proofs.Words.{bit-within, bit-zero, bit-low, bit-ones, bit-up, bit-down}
use Rattle.cofactor.specs.Made.{HasBit}

-- ---- the highest bit of a word

top-bit : (v j : ℕ) → 2 ^ j ≤ v → v < 2 ^ suc j → bit_at v j ≡ true
top-bit v j low high =
    let two = pow-suc 2 j in
    let one : v / 2 ^ j ≡ 1 = div-eq_of_lt-le (2 ^ j) {m = v} (omega arith) (omega arith) in
    ap (λ n. n % 2 == 1) one

highest : (v : ℕ) → 0 < v → v < 2 ^ 64 → (j : ℕ) × (count_leading_zeros 64 v + suc j ≡ 64) × (v < 2 ^ suc j) × (bit_at v j ≡ true)
highest v pos small = let t = leading_top 64 v pos small in (t.0, t.1, t.3, top-bit v t.0 t.2 t.3)

-- a word that isn't 0 has a bit
pub has-bit : (v : ℕ) → (v ≡ 0 → ⊥) → v < 2 ^ 64 → HasBit v
has-bit v h small = let t = highest v (omega arith) small in (t.0, t.3)

pos-of : (v i : ℕ) → bit_at v i ≡ true → 0 < v
pos-of v i h = go (nat_lt 0 v) refl
  where
    go : (b : Bool) → nat_lt 0 v ≡ b → 0 < v
    go true t = ltb-true 0 v t
    go false t = let l = ltb-false 0 v t in let e : v ≡ 0 = omega arith in let z = sym (ap (λ n. bit_at n i) e) ∙ h in let y = bit-zero i in absurd (cc)

-- and no bit from here on
pub past-highest : (v n i : ℕ) → v < 2 ^ 64 → n ≡ count_leading_zeros 64 v → bit_at v i ≡ true → i + n < 64
past-highest v n i small e set =
    let t = highest v (pos-of v i set) small in
    let l = bit-within v (suc t.0) i t.2 set in
    let s = t.1 in
    omega arith

filled-bit : (n i : ℕ) → bit_at ((2 ^ 64 - 1) / 2 ^ n) i ≡ nat_lt (i + n) 64
filled-bit n i = bit-down (2 ^ 64 - 1) n i ∙ bit-ones 64 (i + n)

pub filled-there : (v n r : ℕ) → v < 2 ^ 64 → n ≡ count_leading_zeros 64 v → r ≡ (2 ^ 64 - 1) / 2 ^ n → (i j : ℕ) → bit_at v i ≡ true → j ≤ i → bit_at r j ≡ true
filled-there v n r small e f i j set le =
    let t = highest v (pos-of v i set) small in
    let l = bit-within v (suc t.0) i t.2 set in
    let s = t.1 in
    ap (λ m. bit_at m j) f ∙ filled-bit n j ∙ lt-ltb (j + n) 64 (omega arith)

pub filled-only : (v n r : ℕ) → v < 2 ^ 64 → n ≡ count_leading_zeros 64 v → r ≡ (2 ^ 64 - 1) / 2 ^ n → (j : ℕ) → bit_at r j ≡ true → (i : ℕ) × (bit_at v i ≡ true) × (j ≤ i)
unfolding count_leading_zeros
filled-only v n r small e f j set = go (nat_lt 0 v) refl
  where
    inside : j + n < 64
    inside = ltb-true (j + n) 64 (sym (ap (λ m. bit_at m j) f ∙ filled-bit n j) ∙ set)

    go : (b : Bool) → nat_lt 0 v ≡ b → (i : ℕ) × (bit_at v i ≡ true) × (j ≤ i)
    go true t = let h = highest v (ltb-true 0 v t) small in let s = h.1 in let l = inside in (h.0, h.3, omega arith)
    go false t =
        let l = ltb-false 0 v t in
        let z : v ≡ 0 = omega arith in
        let m = ap (count_leading_zeros 64) z in
        let all : count_leading_zeros 64 0 ≡ 64 = refl in
        let k = inside in
        absurd (omega arith)

-- ---- the lowest bit of a word

pub bit-half : (n i : ℕ) → bit_at n (suc i) ≡ bit_at (n / 2) i
bit-half n i = ap (λ d. d == 1) (bit_at-suc n i)

pub bit-first : (n : ℕ) → bit_at n 0 ≡ (n % 2 == 1)
bit-first n = ap (λ m. m % 2 == 1) (let e : n / 2 ^ 0 ≡ n = omega arith in e)

pub trailing-least : (k n i : ℕ) → bit_at n i ≡ true → count_trailing_zeros k n ≤ i
unfolding count_trailing_zeros
trailing-least zero n i h = omega arith
trailing-least (suc k) n zero h = go (n % 2) refl (sym (bit-first n) ∙ h)
  where
    go : (d : ℕ) → n % 2 ≡ d → (n % 2 == 1) ≡ true → under d (count_trailing_zeros k (n / 2)) ≤ 0
    go zero e odd = let z = ap (λ m. m == 1) e in absurd (cc)
    go (suc d) e odd = omega arith
trailing-least (suc k) n (suc i) h = go (n % 2) (trailing-least k (n / 2) i (sym (bit-half n i) ∙ h))
  where
    go : (d : ℕ) → count_trailing_zeros k (n / 2) ≤ i → under d (count_trailing_zeros k (n / 2)) ≤ suc i
    go zero l = omega arith
    go (suc d) l = omega arith

-- ---- words of ones, and words that are moved

pub ones-there : (m w v i : ℕ) → m ≡ 2 ^ min w 64 - 1 → w ≡ v → i < v → i < 64 → bit_at m i ≡ true
ones-there m w v i e f l s = ap (λ n. bit_at n i) e ∙ bit-ones (min w 64) i ∙ lt-ltb i (min w 64) (omega arith)

pub ones-only : (m w v i : ℕ) → m ≡ 2 ^ min w 64 - 1 → w ≡ v → bit_at m i ≡ true → i < v
ones-only m w v i e f set = let l = ltb-true i (min w 64) (sym (ap (λ n. bit_at n i) e ∙ bit-ones (min w 64) i) ∙ set) in omega arith

pub down-there : (bits n r i j : ℕ) → r ≡ bits / 2 ^ n → bit_at bits i ≡ true → i ≡ j + n → bit_at r j ≡ true
down-there bits n r i j e set f = ap (λ v. bit_at v j) e ∙ bit-down bits n j ∙ sym (ap (bit_at bits) f) ∙ set

pub down-only : (bits n r j : ℕ) → r ≡ bits / 2 ^ n → bit_at r j ≡ true → bit_at bits (j + n) ≡ true
down-only bits n r j e set = sym (ap (λ v. bit_at v j) e ∙ bit-down bits n j) ∙ set

moved-bit : (bits n r j : ℕ) → r ≡ bits * 2 ^ n % 2 ^ 64 → j < 64 → bit_at r j ≡ cond (nat_lt j n) false (bit_at bits (j - n))
moved-bit bits n r j e l = ap (λ v. bit_at v j) e ∙ bit-low (bits * 2 ^ n) 64 j l ∙ bit-up bits n j

pub up-there : (bits n r i j : ℕ) → r ≡ bits * 2 ^ n % 2 ^ 64 → bit_at bits i ≡ true → j ≡ i + n → j < 64 → bit_at r j ≡ true
up-there bits n r i j e set f l = moved-bit bits n r j e l ∙ ap (λ b. cond b false (bit_at bits (j - n))) (above (nat_lt j n) refl) ∙ (let g : j - n ≡ i = omega arith in ap (bit_at bits) g) ∙ set
  where
    above : (b : Bool) → nat_lt j n ≡ b → nat_lt j n ≡ false
    above true t = let m = ltb-true j n t in absurd (omega arith)
    above false t = t

pub up-only : (bits n r j : ℕ) → r ≡ bits * 2 ^ n % 2 ^ 64 → r < 2 ^ 64 → bit_at r j ≡ true → (i : ℕ) × (bit_at bits i ≡ true) × (j ≡ i + n)
up-only bits n r j e small set = go (nat_lt j n) refl
  where
    is : cond (nat_lt j n) false (bit_at bits (j - n)) ≡ true
    is = sym (moved-bit bits n r j e (bit-within r 64 j small set)) ∙ set

    go : (b : Bool) → nat_lt j n ≡ b → (i : ℕ) × (bit_at bits i ≡ true) × (j ≡ i + n)
    go true t = let z = ap (λ b. cond b false (bit_at bits (j - n))) t in let y = is in absurd (cc)
    go false t = let m = ltb-false j n t in (j - n, sym (ap (λ b. cond b false (bit_at bits (j - n))) t) ∙ is, omega arith)
