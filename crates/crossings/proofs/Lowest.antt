-- All bits of a word from its lowest set one on.
use Rattle.std.proofs.Common.{◌≡◌, ◌∙◌, sym, ap, refl, arith, ℕ, zero, suc, ◌-◌, ◌*◌, ◌/◌, ◌%◌, ◌^◌, ◌<◌, ◌≤◌, ◌==◌, true, eq-eqb, lt-ltb}
use Rattle.std.proofs.Math.Nat.{pow-suc}
use lib.Count.{count_trailing_zeros, under}
use Rattle.cell_graph.specs.Tree.{bit_at}
use Rattle.cell_graph.proofs.Words.{bit-ones}
use Rattle.cofactor.proofs.Makers.{bit-half, bit-first, trailing-least, up-there, up-only}
use Rattle.crossings.specs.Readings.{IsFromLowest}

trailing-set : (k n : ℕ) → 0 < n → n < 2 ^ k → bit_at n (count_trailing_zeros k n) ≡ true
unfolding count_trailing_zeros
trailing-set zero n pos h = absurd (omega arith)
trailing-set (suc k) n pos h = go (n % 2) refl (trailing-set k (n / 2))
  where
    go : (d : ℕ) → n % 2 ≡ d → (0 < n / 2 → n / 2 < 2 ^ k → bit_at (n / 2) (count_trailing_zeros k (n / 2)) ≡ true) → bit_at n (under d (count_trailing_zeros k (n / 2))) ≡ true
    go zero e ih = bit-half n (count_trailing_zeros k (n / 2)) ∙ ih (omega arith) (omega (arith, pow-suc 2 k))
    go (suc d) e ih = bit-first n ∙ eq-eqb (n % 2) 1 (omega arith)

lowest-there : (v n r i j : ℕ) → n ≡ count_trailing_zeros 64 v → r ≡ (2 ^ 64 - 1) * 2 ^ n % 2 ^ 64 → bit_at v j ≡ true → j ≤ i → i < 64 → bit_at r i ≡ true
lowest-there v n r i j e f set le lt =
    let least = trailing-least 64 v j set in
    up-there (2 ^ 64 - 1) n r (i - n) i f (bit-ones 64 (i - n) ∙ lt-ltb (i - n) 64 (omega arith)) (omega arith) lt

lowest-only : (v n r i : ℕ) → v < 2 ^ 64 → n ≡ count_trailing_zeros 64 v → r ≡ (2 ^ 64 - 1) * 2 ^ n % 2 ^ 64 → r < 2 ^ 64 → i < 64 → bit_at r i ≡ true → (j : ℕ) × (bit_at v j ≡ true) × (j ≤ i)
unfolding count_trailing_zeros
lowest-only v n r i small e f within lt set = (n, ap (bit_at v) e ∙ trailing-set 64 v (positive v refl) small, let u = up-only (2 ^ 64 - 1) n r i f within set in omega (arith, u.2))
  where
    positive : (m : ℕ) → v ≡ m → 0 < v
    positive zero z =
        let u = up-only (2 ^ 64 - 1) n r i f within set in
        let all : count_trailing_zeros 64 0 ≡ 64 = refl in
        let none = ap (count_trailing_zeros 64) z in
        absurd (omega (arith, u.2))
    positive (suc m) z = omega arith

-- all bits moved up by as many zeros as stand below the lowest bit
pub from-lowest : (v n r : ℕ) → v < 2 ^ 64 → n ≡ count_trailing_zeros 64 v → r ≡ (2 ^ 64 - 1) * 2 ^ n % 2 ^ 64 → r < 2 ^ 64 → IsFromLowest v r
from-lowest v n r small e f within i lt = (lowest-only v n r i small e f within lt, λ m. lowest-there v n r i m.0 e f m.1 m.2 lt)
