-- Words by their bits.
use Rattle.std.proofs.Common.{◌≡◌, ◌∙◌, sym, ap, ap₂, subst, refl, arith, ℕ, zero, suc, ◌+◌, ◌-◌, ◌*◌, ◌/◌, ◌%◌, ◌^◌, ◌<◌, ◌≤◌, ◌==◌, min, max, Bool, true, false, cond, not, ◌&&◌, ◌||◌, nat_lt, ltb-true, ltb-false, eqb-true, eq-eqb, ◌≢◌}
use Rattle.std.specs.Prelude.{bit_and, bit_or, bit_xor, count_ones}
use Rattle.std.specs.Int.{bit_at as digit, w64}
use Rattle.std.proofs.lemmas.Bool.{both_ways, eqb-false}
use Rattle.std.proofs.lemmas.Nat.{pow-add, pow_pos, mod-pow-add, shr-shr, ones_cat, ones_le_self, zero_from_ones, div-add-mod', and_le_l, or_lt, xor_lt, shr_le, div_below, shl_below}
use Rattle.std.proofs.lemmas.Nat.Bits.{bit_at_and, bit_at_or, bit_at_xor, bit_at-lt, bit_at_above, bit_at_cat_low, bit_at_cat_high, bit_at-zero, bit_at_ones, bit_at_ones_above, same_from_bits_below, bit_at_not}
use Rattle.std.proofs.Math.Nat.{mod-eq_of_lt, mod-lt, pow-suc, mod-mod_of_dvd, dvd-mul_right, mul-add-mod_self_right}
use Rattle.std.proofs.Math.Pow.{pow_mono}
use Rattle.cell_graph.specs.Tree.{bit_at, number, all_below, any_below, odd_below}

-- ---- tests

neq : (m n : ℕ) → m ≢ n → (m == n) ≡ false
neq m n h = go (m == n) refl
  where
    go : (b : Bool) → (m == n) ≡ b → (m == n) ≡ false
    go true e = absurd (h (eqb-true m n e))
    go false e = e

and-no : (b : Bool) → (b && false) ≡ false
and-no true = refl
and-no false = refl

or-yes : (b : Bool) → (b || true) ≡ true
or-yes true = refl
or-yes false = refl

-- ---- one bit of a word

-- two digits that test alike are equal
digit_same : (m n : ℕ) → m < 2 → n < 2 → (m == 1) ≡ (n == 1) → m ≡ n
digit_same zero zero h k e = refl
digit_same zero (suc zero) h k e = cc
digit_same (suc zero) zero h k e = cc
digit_same (suc zero) (suc zero) h k e = refl
digit_same (suc (suc m)) n h k e = absurd (omega arith)
digit_same m (suc (suc n)) h k e = absurd (omega arith)

by_digits : (f : ℕ → ℕ → ℕ) (g : Bool → Bool → Bool) → ((f 0 0 == 1) ≡ g false false) → ((f 0 1 == 1) ≡ g false true) → ((f 1 0 == 1) ≡ g true false) → ((f 1 1 == 1) ≡ g true true)
    → (m n : ℕ) → m < 2 → n < 2 → (f m n == 1) ≡ g (m == 1) (n == 1)
by_digits f g a b c d zero zero h k = a
by_digits f g a b c d zero (suc zero) h k = b
by_digits f g a b c d (suc zero) zero h k = c
by_digits f g a b c d (suc zero) (suc zero) h k = d
by_digits f g a b c d (suc (suc m)) n h k = absurd (omega arith)
by_digits f g a b c d m (suc (suc n)) h k = absurd (omega arith)

pub bit_and-bit : (a b i : ℕ) → bit_at (bit_and a b) i ≡ (bit_at a i && bit_at b i)
bit_and-bit a b i = ap (λ n. n == 1) (bit_at_and a b i) ∙ by_digits min (λ x y. x && y) refl refl refl refl (digit a i) (digit b i) (bit_at-lt a i) (bit_at-lt b i)

pub bit_or-bit : (a b i : ℕ) → bit_at (bit_or a b) i ≡ (bit_at a i || bit_at b i)
bit_or-bit a b i = ap (λ n. n == 1) (bit_at_or a b i) ∙ by_digits max (λ x y. x || y) refl refl refl refl (digit a i) (digit b i) (bit_at-lt a i) (bit_at-lt b i)

pub bit_xor-bit : (a b i : ℕ) → bit_at (bit_xor a b) i ≡ cond (bit_at a i) (not (bit_at b i)) (bit_at b i)
bit_xor-bit a b i = ap (λ n. n == 1) (bit_at_xor a b i) ∙ by_digits (λ m n. (m + n) % 2) (λ x y. cond x (not y) y) refl refl refl refl (digit a i) (digit b i) (bit_at-lt a i) (bit_at-lt b i)

-- a word below 2 ^ w has no bit from w on
pub bit-above : (v w i : ℕ) → v < 2 ^ w → w ≤ i → bit_at v i ≡ false
bit-above v w i h k = ap (λ n. n == 1) (bit_at_above v w i h k)

pub bit-within : (v w i : ℕ) → v < 2 ^ w → bit_at v i ≡ true → i < w
bit-within v w i h e = go (nat_lt i w) refl
  where
    go : (b : Bool) → nat_lt i w ≡ b → i < w
    go true f = ltb-true i w f
    go false f = absurd (both_ways (bit_at v i) (bit-above v w i h (ltb-false i w f)) e)

pub bit-zero : (i : ℕ) → bit_at 0 i ≡ false
bit-zero i = ap (λ n. n == 1) (bit_at-zero i)

-- the low bits of a word
pub bit-low : (v w i : ℕ) → i < w → bit_at (v % 2 ^ w) i ≡ bit_at v i
bit-low v w i h = ap (λ n. n == 1) (sym (bit_at_cat_low (v / 2 ^ w) w (v % 2 ^ w) i h)
    ∙ ap (λ n. digit n i) (let e : v / 2 ^ w * 2 ^ w + v % 2 ^ w ≡ v = omega (arith, div-add-mod' v (2 ^ w)) in e))

pub bit-mod : (v w i : ℕ) → bit_at (v % 2 ^ w) i ≡ cond (nat_lt i w) (bit_at v i) false
bit-mod v w i = go (nat_lt i w) refl
  where
    go : (b : Bool) → nat_lt i w ≡ b → bit_at (v % 2 ^ w) i ≡ cond b (bit_at v i) false
    go true e = bit-low v w i (ltb-true i w e)
    go false e = bit-above (v % 2 ^ w) w i (mod-lt v (pow_pos w)) (ltb-false i w e)

pub bit-ones : (w i : ℕ) → bit_at (2 ^ w - 1) i ≡ nat_lt i w
bit-ones w i = go (nat_lt i w) refl
  where
    go : (b : Bool) → nat_lt i w ≡ b → bit_at (2 ^ w - 1) i ≡ b
    go true e = ap (λ n. n == 1) (bit_at_ones w i (ltb-true i w e))
    go false e = ap (λ n. n == 1) (bit_at_ones_above w i (ltb-false i w e))

-- a word that is moved up or down
pub bit-up : (v n i : ℕ) → bit_at (v * 2 ^ n) i ≡ cond (nat_lt i n) false (bit_at v (i - n))
bit-up v n i = go (nat_lt i n) refl
  where
    same : v * 2 ^ n + 0 ≡ v * 2 ^ n
    same = omega arith

    go : (b : Bool) → nat_lt i n ≡ b → bit_at (v * 2 ^ n) i ≡ cond b false (bit_at v (i - n))
    go true e = ap (λ m. bit_at m i) (sym same) ∙ ap (λ m. m == 1) (bit_at_cat_low v n 0 i (ltb-true i n e)) ∙ bit-zero i
    go false e = ap (λ m. bit_at m i) (sym same) ∙ ap (λ m. m == 1) (bit_at_cat_high v n 0 i (pow_pos n) (ltb-false i n e))

pub bit-down : (v n i : ℕ) → bit_at (v / 2 ^ n) i ≡ bit_at v (i + n)
bit-down v n i = ap (λ m. m % 2 == 1) (shr-shr v n i ∙ ap (λ k. v / 2 ^ k) (let e : n + i ≡ i + n = omega arith in e))

-- the opposite word of 64 bits
pub bit-not : (v i : ℕ) → v < 2 ^ 64 → i < 64 → bit_at (2 ^ 64 - 1 - v) i ≡ not (bit_at v i)
bit-not v i h k = ap (λ n. n == 1) (bit_at_not w64 v i h k) ∙ go (digit v i) (bit_at-lt v i)
  where
    go : (d : ℕ) → d < 2 → (1 - d == 1) ≡ not (d == 1)
    go zero h = refl
    go (suc zero) h = refl
    go (suc (suc d)) h = absurd (omega arith)

-- words with the same bits are equal
pub word-same : (w a b : ℕ) → a < 2 ^ w → b < 2 ^ w → ((i : ℕ) → i < w → bit_at a i ≡ bit_at b i) → a ≡ b
word-same w a b h k each = same_from_bits_below w a b h k (λ i lt. digit_same (digit a i) (digit b i) (bit_at-lt a i) (bit_at-lt b i) (each i lt))

-- ---- the word that bits make

pub number-lt : (f : ℕ → Bool) (w : ℕ) → number f w < 2 ^ w
number-lt f zero = omega arith
number-lt f (suc w) = go (number f w) (number-lt f w) (f w)
  where
    go : (n : ℕ) → n < 2 ^ w → (b : Bool) → n + cond b (2 ^ w) 0 < 2 ^ suc w
    go n l true = let e = pow-suc 2 w in omega arith
    go n l false = let e = pow-suc 2 w in omega arith

pub number-same : (f g : ℕ → Bool) (w : ℕ) → ((i : ℕ) → i < w → f i ≡ g i) → number f w ≡ number g w
number-same f g zero each = refl
number-same f g (suc w) each = ap₂ (λ n b. n + cond b (2 ^ w) 0) (number-same f g w (λ i h. each i (omega arith))) (each w (omega arith))

-- the low bits of a word make its rest
pub number-bits : (v w : ℕ) → number (bit_at v) w ≡ v % 2 ^ w
number-bits v zero = omega arith
number-bits v (suc w) = ap (λ n. n + cond (bit_at v w) (2 ^ w) 0) (number-bits v w) ∙ go (v / 2 ^ w % 2) refl ∙ sym (ap (λ k. v % 2 ^ k) (let e : suc w ≡ 1 + w = omega arith in e) ∙ mod-pow-add v 1 w)
  where
    go : (b : ℕ) → v / 2 ^ w % 2 ≡ b → v % 2 ^ w + cond (b == 1) (2 ^ w) 0 ≡ (v / 2 ^ w % 2 ^ 1) * 2 ^ w + v % 2 ^ w
    go zero e = let f : v / 2 ^ w % 2 ^ 1 ≡ 0 = e in rw f (omega arith)
    go (suc zero) e = let f : v / 2 ^ w % 2 ^ 1 ≡ 1 = e in rw f (omega arith)
    go (suc (suc b)) e = absurd (omega arith)

-- a word of w bits with these bits is the number that they make
pub is_number : (v : ℕ) (f : ℕ → Bool) (w : ℕ) → v < 2 ^ w → ((i : ℕ) → i < w → bit_at v i ≡ f i) → v ≡ number f w
is_number v f w h each = sym (mod-eq_of_lt h) ∙ sym (number-bits v w) ∙ number-same (bit_at v) f w each

pub bit-number : (f : ℕ → Bool) (w i : ℕ) → i < w → bit_at (number f w) i ≡ f i
bit-number f zero i h = absurd (omega arith)
bit-number f (suc w) i h = go (nat_lt i w) refl (λ l. bit-number f w i l)
  where
    e : (b : Bool) → number f w + cond b (2 ^ w) 0 ≡ cond b 1 0 * 2 ^ w + number f w
    e true = omega arith
    e false = omega arith

    top : (b : Bool) → bit_at (cond b 1 0) 0 ≡ b
    top true = refl
    top false = refl

    go : (l : Bool) → nat_lt i w ≡ l → (i < w → bit_at (number f w) i ≡ f i) → bit_at (number f w + cond (f w) (2 ^ w) 0) i ≡ f i
    go true l ih = ap (λ n. bit_at n i) (e (f w)) ∙ ap (λ n. n == 1) (bit_at_cat_low (cond (f w) 1 0) w (number f w) i (ltb-true i w l)) ∙ ih (ltb-true i w l)
    go false l ih = ap (λ n. bit_at n i) (e (f w)) ∙ ap (λ n. n == 1) (bit_at_cat_high (cond (f w) 1 0) w (number f w) i (number-lt f w) (ltb-false i w l))
        ∙ ap (bit_at (cond (f w) 1 0)) (let d = ltb-false i w l in let z : i - w ≡ 0 = omega arith in z) ∙ top (f w) ∙ ap f (let d = ltb-false i w l in let z : w ≡ i = omega arith in z)

pub bit-number_above : (f : ℕ → Bool) (w i : ℕ) → w ≤ i → bit_at (number f w) i ≡ false
bit-number_above f w i h = bit-above (number f w) w i (number-lt f w) h

-- the rest of a number is made by its low bits
pub number-low : (f : ℕ → Bool) (w k : ℕ) → k ≤ w → number f w % 2 ^ k ≡ number f k
number-low f w k h = sym (number-bits (number f w) k) ∙ number-same (bit_at (number f w)) f k (λ i l. bit-number f w i (omega arith))

-- ---- words and their bits: v is below 2 ^ w, and its bits are those of f

pub record HasBits (v : ℕ) (f : ℕ → Bool) (w : ℕ) : Type 0 where
  pub lt : v < 2 ^ w
  pub each : (i : ℕ) → i < w → bit_at v i ≡ f i

pub number-has : (f : ℕ → Bool) (w : ℕ) → HasBits (number f w) f w
number-has f w = record { lt = number-lt f w; each = bit-number f w }

pub has-number : {v w : ℕ} {f : ℕ → Bool} → HasBits v f w → v ≡ number f w
has-number {v = v} {w = w} {f = f} h = is_number v f w h.lt h.each

pub has-same : {v w : ℕ} {f g : ℕ → Bool} → HasBits v f w → ((i : ℕ) → i < w → f i ≡ g i) → HasBits v g w
has-same h each = record { lt = h.lt; each = λ i l. h.each i l ∙ each i l }

-- each bit of such a word, also from w on
pub has-bit : {v w : ℕ} {f : ℕ → Bool} → HasBits v f w → (i : ℕ) → bit_at v i ≡ cond (nat_lt i w) (f i) false
has-bit {v = v} {w = w} {f = f} h i = go (nat_lt i w) refl
  where
    go : (b : Bool) → nat_lt i w ≡ b → bit_at v i ≡ cond b (f i) false
    go true e = h.each i (ltb-true i w e)
    go false e = bit-above v w i h.lt (ltb-false i w e)

pub has-64 : {v w : ℕ} {f : ℕ → Bool} → HasBits v f w → w ≤ 64 → v < 2 ^ 64
has-64 {w = w} h k = let m : 2 ^ w ≤ 2 ^ 64 = pow_mono k in let l = h.lt in omega arith

split-64 : (w : ℕ) → w ≤ 64 → 2 ^ 64 ≡ 2 ^ w * 2 ^ (64 - w)
split-64 w h = ap (λ k. 2 ^ k) (let e : 64 ≡ w + (64 - w) = omega arith in e) ∙ pow-add 2 w (64 - w)

pub narrow : (n w : ℕ) → w ≤ 64 → n % 2 ^ 64 % 2 ^ w ≡ n % 2 ^ w
narrow n w h = ap (λ m. n % m % 2 ^ w) (split-64 w h) ∙ mod-mod_of_dvd (2 ^ w) n (dvd-mul_right (2 ^ w) (2 ^ (64 - w)))

pub low-has : (v w : ℕ) (f : ℕ → Bool) → ((i : ℕ) → i < w → bit_at v i ≡ f i) → HasBits (v % 2 ^ w) f w
low-has v w f each = record { lt = mod-lt v (pow_pos w); each = λ i l. bit-low v w i l ∙ each i l }

-- one bit as a word
pub bit-has : (b : Bool) (f : ℕ → Bool) → f 0 ≡ b → HasBits (cond b 1 0) f 1
bit-has b f e = record { lt = small b; each = λ i l. at b i (let z : i ≡ 0 = omega arith in z) ∙ sym e ∙ ap f (let z : 0 ≡ i = omega arith in z) }
  where
    small : (b : Bool) → cond b 1 0 < 2 ^ 1
    small true = omega arith
    small false = omega arith

    at : (b : Bool) (i : ℕ) → i ≡ 0 → bit_at (cond b 1 0) i ≡ b
    at true i z = ap (bit_at 1) z
    at false i z = ap (bit_at 0) z

module _ (f g : ℕ → Bool) (w : ℕ) where
  pub not-has : (v : ℕ) → w ≤ 64 → HasBits v f w → HasBits ((2 ^ 64 - 1 - v) % 2 ^ w) (λ i. not (f i)) w
  not-has v k h = low-has (2 ^ 64 - 1 - v) w (λ i. not (f i)) (λ i l. bit-not v i (has-64 h k) (omega arith) ∙ ap not (h.each i l))

  pub and-has : (u v : ℕ) → HasBits u f w → HasBits v g w → HasBits (bit_and u v) (λ i. f i && g i) w
  and-has u v h k = record {
    lt = let l = and_le_l u v in let m = h.lt in omega arith;
    each = λ i l. bit_and-bit u v i ∙ ap₂ (λ x y. x && y) (h.each i l) (k.each i l);
  }

  pub or-has : (u v : ℕ) → HasBits u f w → HasBits v g w → HasBits (bit_or u v) (λ i. f i || g i) w
  or-has u v h k = record { lt = or_lt w u v h.lt k.lt; each = λ i l. bit_or-bit u v i ∙ ap₂ (λ x y. x || y) (h.each i l) (k.each i l) }

  pub xor-has : (u v : ℕ) → HasBits u f w → HasBits v g w → HasBits (bit_xor u v) (λ i. cond (f i) (not (g i)) (g i)) w
  xor-has u v h k = record { lt = xor_lt w u v h.lt k.lt; each = λ i l. bit_xor-bit u v i ∙ ap₂ (λ x y. cond x (not y) y) (h.each i l) (k.each i l) }

-- the rest of a sum is the rest of the sum of the rests
add-rest : (m k a b : ℕ) → (a * m + k + b) % m ≡ (k + b) % m
add-rest m k a b = ap (λ n. n % m) (let e : a * m + k + b ≡ a * m + (k + b) = omega arith in e) ∙ mul-add-mod_self_right a m (k + b)

sum-rest : (m a b : ℕ) → (a + b) % m ≡ (a % m + b % m) % m
sum-rest m a b =
    ap (λ n. (n + b) % m) (sym (div-add-mod' a m)) ∙ add-rest m (a % m) (a / m) b
    ∙ ap (λ n. (a % m + n) % m) (sym (div-add-mod' b m))
    ∙ ap (λ n. n % m) (let e : a % m + (b / m * m + b % m) ≡ b / m * m + b % m + a % m = omega arith in e)
    ∙ add-rest m (b % m) (b / m) (a % m)
    ∙ ap (λ n. n % m) (let e : b % m + a % m ≡ a % m + b % m = omega arith in e)

-- the low bits of a difference come of the low bits of its sides; the word borrowed is k times as large
difference-rest : (m k a b : ℕ) → 0 < m → b < k * m → (a + (k * m - b)) % m ≡ (m + a % m - b % m) % m
difference-rest m k a b pos lt =
    let p : a / m * m + a % m ≡ a = div-add-mod' a m in
    let q : b / m * m + b % m ≡ b = div-add-mod' b m in
    let below : b / m < k = div_below b m k pos lt in
    let j : ℕ = k - 1 - b / m in
    let whole : k * m ≡ (j + 1 + b / m) * m = ap (λ n. n * m) (let e : k ≡ k - 1 - b / m + 1 + b / m = omega arith in e) in
    let r : b % m < m = mod-lt b pos in
    ap (λ n. n % m) (let e : a + (k * m - b) ≡ (a / m + j) * m + (m + a % m - b % m) + 0 = omega (arith, whole, mul-dist3 j (b / m) m, mul-dist2 (a / m) j m) in e)
    ∙ add-rest m (m + a % m - b % m) (a / m + j) 0 ∙ ap (λ n. n % m) (let e : m + a % m - b % m + 0 ≡ m + a % m - b % m = omega arith in e)
  where
    mul-dist2 : (x y m : ℕ) → (x + y) * m ≡ x * m + y * m
    mul-dist2 x y m = grind arith

    mul-dist3 : (x y m : ℕ) → (x + 1 + y) * m ≡ x * m + m + y * m
    mul-dist3 x y m = grind arith

module _ (f g : ℕ → Bool) (w u v : ℕ) (small : w ≤ 64) (h : HasBits u f w) (k : HasBits v g w) where
  low-u : (i : ℕ) → i ≤ w → u % 2 ^ i ≡ number f i
  low-u i l = ap (λ n. n % 2 ^ i) (has-number h) ∙ number-low f w i l

  low-v : (i : ℕ) → i ≤ w → v % 2 ^ i ≡ number g i
  low-v i l = ap (λ n. n % 2 ^ i) (has-number k) ∙ number-low g w i l

  pub add-has : HasBits ((u + v) % 2 ^ 64 % 2 ^ w) (λ i. bit_at (number f (suc i) + number g (suc i)) i) w
  add-has = subst (λ n. HasBits n (λ i. bit_at (number f (suc i) + number g (suc i)) i) w) (sym (narrow (u + v) w small))
      (low-has (u + v) w (λ i. bit_at (number f (suc i) + number g (suc i)) i) (λ i l.
      sym (bit-low (u + v) (suc i) i (omega arith))
      ∙ ap (λ n. bit_at n i) (sum-rest (2 ^ suc i) u v ∙ ap₂ (λ x y. (x + y) % 2 ^ suc i) (low-u (suc i) (omega arith)) (low-v (suc i) (omega arith)))
      ∙ bit-low (number f (suc i) + number g (suc i)) (suc i) i (omega arith)))

  pub sub-has : HasBits ((u + (2 ^ 64 - v)) % 2 ^ 64 % 2 ^ w) (λ i. bit_at (2 ^ suc i + number f (suc i) - number g (suc i)) i) w
  sub-has = subst (λ n. HasBits n (λ i. bit_at (2 ^ suc i + number f (suc i) - number g (suc i)) i) w) (sym (narrow (u + (2 ^ 64 - v)) w small))
      (low-has (u + (2 ^ 64 - v)) w (λ i. bit_at (2 ^ suc i + number f (suc i) - number g (suc i)) i) (λ i l.
      sym (bit-low (u + (2 ^ 64 - v)) (suc i) i (omega arith))
      ∙ ap (λ n. bit_at n i) (rest i l ∙ ap₂ (λ x y. (2 ^ suc i + x - y) % 2 ^ suc i) (low-u (suc i) (omega arith)) (low-v (suc i) (omega arith)))
      ∙ bit-low (2 ^ suc i + number f (suc i) - number g (suc i)) (suc i) i (omega arith)))
    where
      whole : (i : ℕ) → i < w → 2 ^ 64 ≡ 2 ^ (64 - suc i) * 2 ^ suc i
      whole i l = ap (λ n. 2 ^ n) (let e : 64 ≡ 64 - suc i + suc i = omega arith in e) ∙ pow-add 2 (64 - suc i) (suc i)

      rest : (i : ℕ) → i < w → (u + (2 ^ 64 - v)) % 2 ^ suc i ≡ (2 ^ suc i + u % 2 ^ suc i - v % 2 ^ suc i) % 2 ^ suc i
      rest i l = subst (λ n. (u + (n - v)) % 2 ^ suc i ≡ (2 ^ suc i + u % 2 ^ suc i - v % 2 ^ suc i) % 2 ^ suc i) (sym (whole i l))
          (difference-rest (2 ^ suc i) (2 ^ (64 - suc i)) u v (pow_pos (suc i)) (subst (λ n. v < n) (whole i l) (has-64 k small)))

-- ---- moved words

pub up-has : (f : ℕ → Bool) (w u n : ℕ) → w ≤ 64 → HasBits u f w → HasBits (u * 2 ^ n % 2 ^ 64 % 2 ^ w) (λ i. cond (nat_lt i n) false (cond (nat_lt (i - n) w) (f (i - n)) false)) w
up-has f w u n small h = subst (λ m. HasBits m (λ i. cond (nat_lt i n) false (cond (nat_lt (i - n) w) (f (i - n)) false)) w) (sym (narrow (u * 2 ^ n) w small))
    (low-has (u * 2 ^ n) w (λ i. cond (nat_lt i n) false (cond (nat_lt (i - n) w) (f (i - n)) false)) (λ i l. bit-up u n i ∙ ap (cond (nat_lt i n) false) (has-bit h (i - n))))

pub down-has : (f : ℕ → Bool) (w u n : ℕ) → HasBits u f w → HasBits (u / 2 ^ n) (λ i. cond (nat_lt (i + n) w) (f (i + n)) false) w
down-has f w u n h = record { lt = let l = shr_le u n in let m = h.lt in omega arith; each = λ i l. bit-down u n i ∙ has-bit h (i + n) }

pub slice-has : (f : ℕ → Bool) (w u n v : ℕ) → n + v ≤ w → HasBits u f w → HasBits (u / 2 ^ n % 2 ^ v) (λ i. f (n + i)) v
slice-has f w u n v fits h = low-has (u / 2 ^ n) v (λ i. f (n + i)) (λ i l. bit-down u n i ∙ h.each (i + n) (omega arith) ∙ ap f (let e : i + n ≡ n + i = omega arith in e))

pub wider-has : (f : ℕ → Bool) (w u v : ℕ) → w ≤ v → HasBits u f w → HasBits u (λ i. cond (nat_lt i w) (f i) false) v
wider-has f w u v le h = record { lt = let m : 2 ^ w ≤ 2 ^ v = pow_mono le in let l = h.lt in omega arith; each = λ i l. has-bit h i }

pub joined-has : (f g : ℕ → Bool) (w v a b : ℕ) → w + v ≤ 64 → HasBits a f w → HasBits b g v
    → HasBits (bit_or (a * 2 ^ v % 2 ^ 64) b) (λ i. cond (nat_lt i v) (g i) (f (i - v))) (w + v)
joined-has f g w v a b small h k =
    let lt : a * 2 ^ v < 2 ^ (w + v) = shl_below a w v h.lt in
    let m : 2 ^ (w + v) ≤ 2 ^ 64 = pow_mono small in
    let whole : a * 2 ^ v % 2 ^ 64 ≡ a * 2 ^ v = mod-eq_of_lt (let l : a * 2 ^ v < 2 ^ 64 = omega arith in l) in
    let n : 2 ^ v ≤ 2 ^ (w + v) = pow_mono (let l : v ≤ w + v = omega arith in l) in
    let b-lt : b < 2 ^ (w + v) = let l = k.lt in omega arith in
    subst (λ x. HasBits (bit_or x b) (λ i. cond (nat_lt i v) (g i) (f (i - v))) (w + v)) (sym whole) record {
      lt = or_lt (w + v) (a * 2 ^ v) b lt b-lt;
      each = λ i l. bit_or-bit (a * 2 ^ v) b i ∙ ap₂ (λ x y. x || y) (bit-up a v i) (has-bit k i) ∙ go i l (nat_lt i v) refl;
    }
  where
    or-false : (b : Bool) → (b || false) ≡ b
    or-false true = refl
    or-false false = refl

    go : (i : ℕ) → i < w + v → (c : Bool) → nat_lt i v ≡ c → (cond c false (bit_at a (i - v)) || cond c (g i) false) ≡ cond c (g i) (f (i - v))
    go i l true e = refl
    go i l false e = or-false (bit_at a (i - v)) ∙ h.each (i - v) (let d = ltb-false i v e in omega arith)

-- ---- all bits in one

-- two words are one where all their bits are
pub equal-bits : (f g : ℕ → Bool) (w : ℕ) → (number f w == number g w) ≡ all_below (λ j. not (cond (f j) (not (g j)) (g j))) w
equal-bits f g zero = refl
equal-bits f g (suc w) = ends (f w) (g w) ∙ ap (λ b. b && not (cond (f w) (not (g w)) (g w))) (equal-bits f g w)
  where
    lower : (x y : ℕ) → x < 2 ^ w → y < 2 ^ w → (b c : Bool) → (x + cond b (2 ^ w) 0 == y + cond c (2 ^ w) 0) ≡ ((x == y) && not (cond b (not c) c))
    lower x y h k true true = both-up (x == y) refl
      where
        both-up : (t : Bool) → (x == y) ≡ t → (x + 2 ^ w == y + 2 ^ w) ≡ (t && true)
        both-up true e = eq-eqb (x + 2 ^ w) (y + 2 ^ w) (ap (λ n. n + 2 ^ w) (eqb-true x y e))
        both-up false e = neq (x + 2 ^ w) (y + 2 ^ w) (λ same. eqb-false x y e (omega arith))
    lower x y h k true false = neq (x + 2 ^ w) (y + 0) (λ same. omega arith) ∙ sym (and-no (x == y))
    lower x y h k false true = neq (x + 0) (y + 2 ^ w) (λ same. omega arith) ∙ sym (and-no (x == y))
    lower x y h k false false = plain (x == y) refl
      where
        plain : (t : Bool) → (x == y) ≡ t → (x + 0 == y + 0) ≡ (t && true)
        plain true e = eq-eqb (x + 0) (y + 0) (ap (λ n. n + 0) (eqb-true x y e))
        plain false e = neq (x + 0) (y + 0) (λ same. eqb-false x y e (omega arith))

    ends : (b c : Bool) → (number f w + cond b (2 ^ w) 0 == number g w + cond c (2 ^ w) 0) ≡ ((number f w == number g w) && not (cond b (not c) c))
    ends b c = lower (number f w) (number g w) (number-lt f w) (number-lt g w) b c

-- no bit is set exactly in 0, and all bits exactly in the word of ones
pub any-bit : (f : ℕ → Bool) (w : ℕ) → any_below f w ≡ not (number f w == 0)
any-bit f zero = refl
any-bit f (suc w) = ap (λ b. b || f w) (any-bit f w) ∙ go (f w) (number f w == 0) refl
  where
    go : (b t : Bool) → (number f w == 0) ≡ t → (not t || b) ≡ not (number f w + cond b (2 ^ w) 0 == 0)
    go true t e = or-yes (not t) ∙ ap not (sym (neq (number f w + 2 ^ w) 0 (λ same. let p = pow_pos w in omega arith)))
    go false true e = ap not (sym (eq-eqb (number f w + 0) 0 (let z = eqb-true (number f w) 0 e in omega arith)))
    go false false e = ap not (sym (neq (number f w + 0) 0 (λ same. eqb-false (number f w) 0 e (omega arith))))

pub all-bits : (f : ℕ → Bool) (w : ℕ) → all_below f w ≡ (number f w == 2 ^ w - 1)
all-bits f zero = refl
all-bits f (suc w) = ap (λ b. b && f w) (all-bits f w) ∙ go (f w) (number f w == 2 ^ w - 1) refl
  where
    go : (b t : Bool) → (number f w == 2 ^ w - 1) ≡ t → (t && b) ≡ (number f w + cond b (2 ^ w) 0 == 2 ^ suc w - 1)
    go true true e = sym (eq-eqb (number f w + 2 ^ w) (2 ^ suc w - 1) (let z = eqb-true (number f w) (2 ^ w - 1) e in let p = pow_pos w in let s = pow-suc 2 w in omega arith))
    go true false e = sym (neq (number f w + 2 ^ w) (2 ^ suc w - 1) (λ same. eqb-false (number f w) (2 ^ w - 1) e (let p = pow_pos w in let s = pow-suc 2 w in omega arith)))
    go false t e = and-no t ∙ sym (neq (number f w + 0) (2 ^ suc w - 1) (λ same. let l = number-lt f w in let s = pow-suc 2 w in let p = pow_pos w in omega arith))

-- whether an odd number of bits is set
pub odd-bits : (f : ℕ → Bool) (w : ℕ) → HasBits (count_ones (number f w) % 2) (λ i. odd_below f w) 1
odd-bits f w = subst (λ n. HasBits n (λ i. odd_below f w) 1) (sym (parity w)) (bit-has (odd_below f w) (λ i. odd_below f w) refl)
  where
    none : count_ones 0 ≡ 0
    none = let l = ones_le_self 0 in omega arith

    single : count_ones 1 ≡ 1
    single = go (count_ones 1) refl (ones_le_self 1)
      where
        go : (n : ℕ) → count_ones 1 ≡ n → count_ones 1 ≤ 1 → count_ones 1 ≡ 1
        go zero e l = absurd (let z = zero_from_ones 1 e in omega arith)
        go (suc n) e l = omega arith

    parity : (w : ℕ) → count_ones (number f w) % 2 ≡ cond (odd_below f w) 1 0
    parity zero = ap (λ n. n % 2) none
    parity (suc w) = ap (λ n. count_ones n % 2) (e (f w)) ∙ ap (λ n. n % 2) (ones_cat w (cond (f w) 1 0) (number f w) (number-lt f w)) ∙ go (f w) (odd_below f w) (parity w)
      where
        e : (b : Bool) → number f w + cond b (2 ^ w) 0 ≡ cond b 1 0 * 2 ^ w + number f w
        e true = omega arith
        e false = omega arith

        one : (b : Bool) → count_ones (cond b 1 0) ≡ cond b 1 0
        one true = single
        one false = none

        go : (b t : Bool) → count_ones (number f w) % 2 ≡ cond t 1 0 → (count_ones (cond b 1 0) + count_ones (number f w)) % 2 ≡ cond (cond b (not t) t) 1 0
        go true true h = ap (λ n. (n + count_ones (number f w)) % 2) (one true) ∙ omega arith
        go true false h = ap (λ n. (n + count_ones (number f w)) % 2) (one true) ∙ omega arith
        go false true h = ap (λ n. (n + count_ones (number f w)) % 2) (one false) ∙ omega arith
        go false false h = ap (λ n. (n + count_ones (number f w)) % 2) (one false) ∙ omega arith

-- a mask of ones beyond the word's own bits takes none away
pub word-low : (v w : ℕ) → v < 2 ^ 64 → v % 2 ^ min w 64 ≡ v % 2 ^ w
word-low v w h = go (nat_lt w 64) refl
  where
    go : (b : Bool) → nat_lt w 64 ≡ b → v % 2 ^ min w 64 ≡ v % 2 ^ w
    go true e = let l = ltb-true w 64 e in ap (λ k. v % 2 ^ k) (let m : min w 64 ≡ w = omega arith in m)
    go false e =
        let l = ltb-false w 64 e in
        let m : 2 ^ 64 ≤ 2 ^ w = pow_mono l in
        ap (λ k. v % 2 ^ k) (let n : min w 64 ≡ 64 = omega arith in n) ∙ mod-eq_of_lt h ∙ sym (mod-eq_of_lt (let n : v < 2 ^ w = omega arith in n))
