-- The bits of masks.
use Rattle.std.proofs.Common.{◌≡◌, ℕ, ◌+◌, ◌-◌, ◌*◌, ◌%◌, ◌^◌, ◌<◌, ◌≤◌, min, true, false, cond, not, ◌&&◌, nat_lt, refl, sym, ap, ◌∙◌, arith, lt-ltb}
use Rattle.cell_graph.specs.Tree.{bit_at}
use Rattle.cell_graph.proofs.Words.{bit-ones, bit-up, bit-mod}
use Rattle.flat_meaning.specs.Assigned.{is_within}
use Rattle.flat_meaning.proofs.Words.{by_lt}

lt-no : (i n : ℕ) → n ≤ i → nat_lt i n ≡ false
lt-no i n h = by_lt (λ z. z ≡ false) i n (λ l. absurd (omega arith)) (λ l. refl)

-- two tests of one place
pub ones-set : (w i : ℕ) → bit_at (2 ^ min w 64 - 1) i ≡ (nat_lt i 64 && is_within 0 w i)
ones-set w i = bit-ones (min w 64) i ∙ by_lt (λ a. nat_lt i (min w 64) ≡ (a && is_within 0 w i)) i 64 (λ l. inside l) (λ l. lt-no i (min w 64) (omega arith))
  where
    low : not (nat_lt i 0) ≡ true
    low = ap not (lt-no i 0 (omega arith))

    inside : i < 64 → nat_lt i (min w 64) ≡ is_within 0 w i
    inside l = by_lt (λ b. nat_lt i (min w 64) ≡ (not (nat_lt i 0) && b)) i (0 + w)
        (λ k. lt-ltb i (min w 64) (omega arith) ∙ sym (ap (λ z. z && true) low))
        (λ k. lt-no i (min w 64) (omega arith) ∙ sym (ap (λ z. z && false) low))

-- a mask that is moved up
pub moved-set : (v at w i : ℕ) → ((j : ℕ) → bit_at v j ≡ (nat_lt j 64 && is_within 0 w j)) → bit_at (v * 2 ^ at % 2 ^ 64) i ≡ (nat_lt i 64 && is_within at w i)
moved-set v at w i h = bit-mod (v * 2 ^ at) 64 i ∙ by_lt (λ a. cond a (bit_at (v * 2 ^ at) i) false ≡ (a && is_within at w i)) i 64 (λ l. bit-up v at i ∙ inside l) (λ l. refl)
  where
    inside : i < 64 → cond (nat_lt i at) false (bit_at v (i - at)) ≡ is_within at w i
    inside l = by_lt (λ a. cond a false (bit_at v (i - at)) ≡ (not a && nat_lt i (at + w))) i at (λ k. refl)
        (λ k. h (i - at) ∙ ap (λ z. z && is_within 0 w (i - at)) (lt-ltb (i - at) 64 (omega arith)) ∙ ap (λ z. not z && nat_lt (i - at) (0 + w)) (lt-no (i - at) 0 (omega arith))
        ∙ by_lt (λ b. nat_lt (i - at) (0 + w) ≡ b) i (at + w) (λ m. lt-ltb (i - at) (0 + w) (omega arith)) (λ m. lt-no (i - at) (0 + w) (omega arith)))
