-- The number with a Gray code.
use Rattle.std.proofs.Common.{◌≡◌, ◌∙◌, sym, ap, ap₂, refl, arith, ℕ, zero, suc, ◌+◌, ◌/◌, ◌%◌, ◌^◌, ◌<◌, List, [], ◌∷◌, slice_index_or}
use Rattle.std.specs.Int.{bit_at}
use Rattle.std.specs.Int.Bits.{bit_xor, xor_zero_r}
use Rattle.std.proofs.lemmas.Nat.{shr-shr, xor_shr}
use Rattle.std.proofs.lemmas.Nat.Bits.{bit_at_xor, bit_at-lt, same_from_bits}
use Rattle.std.proofs.Math.Nat.{div-eq_of_lt}

-- the number xor itself shifted
abbrev pub folded : ℕ → ℕ → ℕ
folded n d = bit_xor n (n / 2 ^ d)

xor_between : (a b c : ℕ) → bit_xor (bit_xor a b) (bit_xor b c) ≡ bit_xor a c
xor_between a b c = same_from_bits _ _ (λ i.
    let p = bit_at-lt a i in
    let q = bit_at-lt b i in
    let r = bit_at-lt c i in
    let e : bit_at (bit_xor (bit_xor a b) (bit_xor b c)) i ≡ ((bit_at a i + bit_at b i) % 2 + (bit_at b i + bit_at c i) % 2) % 2 =
    bit_at_xor (bit_xor a b) (bit_xor b c) i ∙ ap₂ (λ u v. (u + v) % 2) (bit_at_xor a b i) (bit_at_xor b c i) in
    e ∙ twice (bit_at a i) (bit_at b i) (bit_at c i) ∙ sym (bit_at_xor a c i))
  where
    twice : (x y z : ℕ) → ((x + y) % 2 + (y + z) % 2) % 2 ≡ (x + z) % 2
    twice x y z = omega arith

-- twice as far
pub folded_more : (n d : ℕ) → bit_xor (folded n d) (folded n d / 2 ^ d) ≡ folded n (d + d)
folded_more n d = ap (bit_xor (folded n d)) (xor_shr n (n / 2 ^ d) d) ∙ xor_between n (n / 2 ^ d) (n / 2 ^ d / 2 ^ d) ∙ ap (bit_xor n) (shr-shr n d d)

-- past all bits
pub folded_far : (n d : ℕ) → n < 2 ^ d → folded n d ≡ n
folded_far n d l = ap (bit_xor n) (div-eq_of_lt l) ∙ xor_zero_r n

abbrev pub distances : List ℕ
distances = 1 ∷ 2 ∷ 4 ∷ 8 ∷ 16 ∷ 32 ∷ []

-- each distance is twice the one before
pub distance_is : (i : ℕ) → i < 6 → slice_index_or distances i 0 ≡ 2 ^ i
distance_is zero l = refl
distance_is (suc zero) l = refl
distance_is (suc (suc zero)) l = refl
distance_is (suc (suc (suc zero))) l = refl
distance_is (suc (suc (suc (suc zero)))) l = refl
distance_is (suc (suc (suc (suc (suc zero))))) l = refl
distance_is (suc (suc (suc (suc (suc (suc i)))))) l = absurd (omega arith)
