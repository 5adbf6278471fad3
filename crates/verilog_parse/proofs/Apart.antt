-- The value of a mask that a text has is 0 at its open bits.
use Rattle.std.proofs.Common.{◌≡◌, ℕ, Bool, true, false, ◌<◌, ◌≤◌, ◌+◌, ◌-◌, ◌*◌, ◌/◌, ◌%◌, ◌^◌, ◌==◌, List, [], ◌∷◌, arith, refl, sym, ap, subst, ◌∙◌, rules, if◌then◌else◌}
use Rattle.std.specs.Prelude.{Some, None, nat_lt, ◌||◌}
use Rattle.std.specs.Int.{bit_at}
use Rattle.std.proofs.Math.Nat.{mod-lt, div-add-mod'}
use Rattle.std.proofs.lemmas.Nat.{pow_pos}
use Rattle.std.proofs.lemmas.Nat.Bits.{bit_at-zero, bit_at_above, bit_at_cat_low, bit_at_cat_high}
use Rattle.std.proofs.lemmas.Option.{none-some}
use Rattle.verilog_lex.specs.Numbers.{figure_value, value_in, is_open, opened, open_in, base_of}
use Rattle.verilog_parse.specs.Written.{Apart}

pub nothing_apart : (o : ℕ) → Apart 0 o
nothing_apart o i e = bit_at-zero i

-- bits behind others
apart_behind : (j n m f g : ℕ) → f < 2 ^ j → g < 2 ^ j → Apart n m → Apart f g → Apart (n * 2 ^ j + f) (m * 2 ^ j + g)
apart_behind j n m f g h l a b i e = by (nat_lt i j) refl
  where
    by : (t : Bool) → nat_lt i j ≡ t → bit_at (n * 2 ^ j + f) i ≡ 0
    by true p = let u : i < j = grind (arith, p) in bit_at_cat_low n j f i u ∙ b i (sym (bit_at_cat_low m j g i u) ∙ e)
    by false p = let u : j ≤ i = grind (arith, p) in bit_at_cat_high n j f i h u ∙ a (i - j) (sym (bit_at_cat_high m j g i l u) ∙ e)

open_is_zero : (d : ℕ) → is_open d ≡ true → figure_value 0 d ≡ 0
open_is_zero d h = grind (arith, h)

-- a figure and the bits that it opens
apart_figure : (base d : ℕ) → Apart (figure_value 0 d) (opened base d)
apart_figure base d i e = by (is_open d) refl e
  where
    by : (t : Bool) → is_open d ≡ t → bit_at (if t then base - 1 else 0) i ≡ 1 → bit_at (figure_value 0 d) i ≡ 0
    by true p e = ap (λ z. bit_at z i) (open_is_zero d p) ∙ bit_at-zero i
    by false p e = let f : bit_at 0 i ≡ 1 = e in absurd (omega (arith, bit_at-zero i, f))

opened_below : (j d : ℕ) → opened (2 ^ j) d < 2 ^ j
opened_below j d = by (is_open d)
  where
    by : (t : Bool) → (if t then 2 ^ j - 1 else 0) < 2 ^ j
    by true = omega (arith, pow_pos j)
    by false = pow_pos j

-- digits of whole bits
pub digits_apart : (j n m v : ℕ) (ds : List ℕ) → Apart n m → value_in (2 ^ j) 0 n ds ≡ Some v → Apart v (open_in (2 ^ j) m ds)
digits_apart j n m v [] a e = let z : n ≡ v = search (rules, e) in subst (λ x. Apart x m) z a
digits_apart j n m v (d ∷ ds) a e = by (d == 95) (nat_lt (figure_value 0 d) (2 ^ j)) refl e (λ n m b f. digits_apart j n m v ds b f)
  where
    base : ℕ
    base = 2 ^ j

    by : (s t : Bool) → nat_lt (figure_value 0 d) base ≡ t
        → (if s then value_in base 0 n ds else (if t then value_in base 0 (n * base + figure_value 0 d) ds else None)) ≡ Some v
        → ((n m : ℕ) → Apart n m → value_in base 0 n ds ≡ Some v → Apart v (open_in base m ds))
        → Apart v (if s then open_in base m ds else open_in base (m * base + opened base d) ds)
    by true t p e go = go n m a e
    by false true p e go = let l : figure_value 0 d < 2 ^ j = grind (arith, p) in
        go (n * base + figure_value 0 d) (m * base + opened base d) (apart_behind j n m (figure_value 0 d) (opened base d) l (opened_below j d) a (apart_figure base d)) e
    by false false p e go = absurd (none-some v e)

-- a base other than ten has whole bits
pub whole_bits : (letter base : ℕ) → base_of letter ≡ Some base → (base == 10) ≡ false → (j : ℕ) × (base ≡ 2 ^ j)
whole_bits letter base e f = first (letter == 98 || letter == 66) (letter == 111 || letter == 79) (letter == 100 || letter == 68) (letter == 104 || letter == 72) e
  where
    last : (t : Bool) → (if t then Some 16 else None) ≡ Some base → (j : ℕ) × (base ≡ 2 ^ j)
    last true e = let z : 16 ≡ base = search (rules, e) in (4, sym z)
    last false e = absurd (none-some base e)

    third : (s t : Bool) → (if s then Some 10 else (if t then Some 16 else None)) ≡ Some base → (j : ℕ) × (base ≡ 2 ^ j)
    third true t e = let z : 10 ≡ base = search (rules, e) in let g : true ≡ false = ap (λ x. x == 10) z ∙ f in absurd (search (rules, g))
    third false t e = last t e

    second : (r s t : Bool) → (if r then Some 8 else (if s then Some 10 else (if t then Some 16 else None))) ≡ Some base → (j : ℕ) × (base ≡ 2 ^ j)
    second true s t e = let z : 8 ≡ base = search (rules, e) in (3, sym z)
    second false s t e = third s t e

    first : (q r s t : Bool) → (if q then Some 2 else (if r then Some 8 else (if s then Some 10 else (if t then Some 16 else None)))) ≡ Some base → (j : ℕ) × (base ≡ 2 ^ j)
    first true r s t e = let z : 2 ≡ base = search (rules, e) in (1, sym z)
    first false r s t e = second r s t e

-- the lowest bits
low_bit : (n w i : ℕ) → i < w → bit_at (n % 2 ^ w) i ≡ bit_at n i
low_bit n w i h = sym (bit_at_cat_low (n / 2 ^ w) w (n % 2 ^ w) i h) ∙ ap (λ z. bit_at z i) (div-add-mod' n (2 ^ w))

pub apart_cut : (v o w : ℕ) → Apart v o → Apart (v % 2 ^ w) (o % 2 ^ w)
apart_cut v o w a i e = by (nat_lt i w) refl
  where
    by : (t : Bool) → nat_lt i w ≡ t → bit_at (v % 2 ^ w) i ≡ 0
    by true p = let u : i < w = grind (arith, p) in low_bit v w i u ∙ a i (sym (low_bit o w i u) ∙ e)
    by false p = let u : w ≤ i = grind (arith, p) in bit_at_above (v % 2 ^ w) w i (mod-lt v (pow_pos w)) u
