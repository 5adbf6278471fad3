-- The digits that are printed of a number are read as its value.
use Rattle.std.proofs.Common.{◌≡◌, ℕ, Bool, true, false, zero, suc, ◌<◌, ◌≤◌, ◌+◌, ◌*◌, ◌/◌, ◌%◌, ◌^◌, ◌==◌, List, [], ◌∷◌, arith, refl, ap, ◌∙◌}
use Rattle.std.specs.Prelude.{Some, None, nat_lt, ◌||◌, if◌then◌else◌}
use Rattle.std.specs.List.{list_any}
use Rattle.std.proofs.lemmas.Option.{none-some}
use Rattle.std.specs.Fmt.{digit_glyph, digits_onto, digits, decimal, radix_digits}
use Rattle.std.proofs.Math.Nat.{pow-zero, pow-suc, mod-lt, div-add-mod', div-lt_iff_lt-mul}
use Rattle.cdc_base.specs.declared.bytes.Class.{Class}
use Rattle.cdc_base.specs.declared.bytes.Class.TheVariants.{Decimal, Figure}
use Rattle.cdc_base.specs.Bytes.{in_class}
use Rattle.verilog_lex.specs.Laws.{AllOf}
use Rattle.verilog_lex.specs.Numbers.{figure_value, value_in, is_open}

abbrev pub glyph : ℕ → ℕ
glyph d = digit_glyph false d

glyph_value : (d : ℕ) → d < 16 → figure_value 16 (glyph d) ≡ d
glyph_value d h = grind (arith, h)

pub glyph_is_no_line : (d : ℕ) → d < 16 → (glyph d == 95) ≡ false
glyph_is_no_line d h = grind (arith, h)

pub glyph_is_decimal : (d : ℕ) → d < 10 → in_class Decimal (glyph d) ≡ true
glyph_is_decimal d h = grind (arith, h)

pub glyph_is_figure : (d : ℕ) → d < 16 → in_class Figure (glyph d) ≡ true
glyph_is_figure d h = grind (arith, h)

below : (a b : ℕ) → a < b → nat_lt a b ≡ true
below a b h = grind (arith, h)

-- a digit goes on with the number that those before it write
value_next : (base m d : ℕ) (ds : List ℕ) → d < base → base ≤ 16 → value_in base 16 m (glyph d ∷ ds) ≡ value_in base 16 (m * base + d) ds
value_next base m d ds h l =
    ap (λ t. if t then value_in base 16 m ds else (if nat_lt (figure_value 16 (glyph d)) base then value_in base 16 (m * base + figure_value 16 (glyph d)) ds else None)) (glyph_is_no_line d (omega (arith, h, l)))
    ∙ ap (λ f. if nat_lt f base then value_in base 16 (m * base + f) ds else None) (glyph_value d (omega (arith, h, l)))
    ∙ ap (λ t. if t then value_in base 16 (m * base + d) ds else None) (below d base h)

module _ (base : ℕ) (low : 2 ≤ base) (high : base ≤ 16) where
  some : 0 < base
  some = omega (arith, low)

  last : (n : ℕ) → n % base < base
  last n = mod-lt n some

  fewer : (k n : ℕ) → n < base ^ suc k → n / base < base ^ k
  fewer k n h = (div-lt_iff_lt-mul some).1 (omega (arith, h, pow-suc base k))

  -- the digits of a number before others
  value_onto : (k n : ℕ) (ds : List ℕ) → n < base ^ k → value_in base 16 0 (digits_onto k base false n ds) ≡ value_in base 16 n ds
  value_onto zero n ds h = ap (λ z. value_in base 16 z ds) (let e : 0 ≡ n = omega (arith, h, pow-zero base) in e)
  value_onto (suc k) n ds h = by (n / base == 0) refl (value_onto k (n / base) (glyph (n % base) ∷ ds) (fewer k n h))
    where
      next : value_in base 16 (n / base) (glyph (n % base) ∷ ds) ≡ value_in base 16 n ds
      next = value_next base (n / base) (n % base) ds (last n) high ∙ ap (λ z. value_in base 16 z ds) (div-add-mod' n base)

      by : (t : Bool) → (n / base == 0) ≡ t → value_in base 16 0 (digits_onto k base false (n / base) (glyph (n % base) ∷ ds)) ≡ value_in base 16 (n / base) (glyph (n % base) ∷ ds)
          → value_in base 16 0 (if t then glyph (n % base) ∷ ds else digits_onto k base false (n / base) (glyph (n % base) ∷ ds)) ≡ value_in base 16 n ds
      by true e r = ap (λ z. value_in base 16 z (glyph (n % base) ∷ ds)) (let z : 0 ≡ n / base = grind (arith, e) in z) ∙ next
      by false e r = r ∙ next

  all_onto : (c : Class) → ((d : ℕ) → d < base → in_class c (glyph d) ≡ true) → (k n : ℕ) (ds : List ℕ) → AllOf c ds → AllOf c (digits_onto k base false n ds)
  all_onto c f zero n ds a = a
  all_onto c f (suc k) n ds a = by (n / base == 0) (all_onto c f k (n / base) (glyph (n % base) ∷ ds) (f (n % base) (last n), a))
    where
      by : (t : Bool) → AllOf c (digits_onto k base false (n / base) (glyph (n % base) ∷ ds)) → AllOf c (if t then glyph (n % base) ∷ ds else digits_onto k base false (n / base) (glyph (n % base) ∷ ds))
      by true r = (f (n % base) (last n), a)
      by false r = r

  -- a digit stands first
  abbrev Starts : List ℕ → Type 0
  Starts text = (d : ℕ) × (ds : List ℕ) × (d < base) × (text ≡ glyph d ∷ ds)

  first_onto : (k n d : ℕ) (ds : List ℕ) → d < base → Starts (digits_onto k base false n (glyph d ∷ ds))
  first_onto zero n d ds h = (d, ds, h, refl)
  first_onto (suc k) n d ds h = by (n / base == 0) (first_onto k (n / base) (n % base) (glyph d ∷ ds) (last n))
    where
      by : (t : Bool) → Starts (digits_onto k base false (n / base) (glyph (n % base) ∷ (glyph d ∷ ds))) → Starts (if t then glyph (n % base) ∷ (glyph d ∷ ds) else digits_onto k base false (n / base) (glyph (n % base) ∷ (glyph d ∷ ds)))
      by true r = (n % base, glyph d ∷ ds, last n, refl)
      by false r = r

-- digits that have a value are closed
no_line : (d : ℕ) → (d == 95) ≡ true → is_open d ≡ false
no_line d h = grind (arith, h)

no_open : (d base : ℕ) → base ≤ 16 → nat_lt (figure_value 16 d) base ≡ true → is_open d ≡ false
no_open d base l h = grind (arith, l, h)

neither : (x y : Bool) → x ≡ false → y ≡ false → (x || y) ≡ false
neither x y h k = ap (λ t. t || y) h ∙ k

closed_digits : (base n v : ℕ) (ds : List ℕ) → base ≤ 16 → value_in base 16 n ds ≡ Some v → list_any is_open ds ≡ false
closed_digits base n v [] l e = refl
closed_digits base n v (d ∷ ds) l e = by (d == 95) (nat_lt (figure_value 16 d) base) refl refl (closed_digits base n v ds l) (closed_digits base (n * base + figure_value 16 d) v ds l) e
  where
    by : (s t : Bool) → (d == 95) ≡ s → nat_lt (figure_value 16 d) base ≡ t
        → (value_in base 16 n ds ≡ Some v → list_any is_open ds ≡ false) → (value_in base 16 (n * base + figure_value 16 d) ds ≡ Some v → list_any is_open ds ≡ false)
        → (if s then value_in base 16 n ds else (if t then value_in base 16 (n * base + figure_value 16 d) ds else None)) ≡ Some v → list_any is_open (d ∷ ds) ≡ false
    by true t p q f g e = neither (is_open d) (list_any is_open ds) (no_line d p) (f e)
    by false true p q f g e = neither (is_open d) (list_any is_open ds) (no_open d base l q) (g e)
    by false false p q f g e = absurd (none-some v e)

-- the digits of a number in a base
pub record Digits (base n : ℕ) (text : List ℕ) : Type 0 where
  pub value : value_in base 16 0 text ≡ Some n
  pub closed : list_any is_open text ≡ false
  pub each : (c : Class) → ((d : ℕ) → d < base → in_class c (glyph d) ≡ true) → AllOf c text
  pub starts : (d : ℕ) × (ds : List ℕ) × (d < base) × (text ≡ glyph d ∷ ds)

digits_of : (base n : ℕ) → 2 ≤ base → base ≤ 16 → n < base ^ 64 → Digits base n (digits base false n)
unfolding digits
digits_of base n l u h = record { value = value_onto base l u 64 n [] h; closed = closed_digits base 0 n (digits_onto 64 base false n []) u (value_onto base l u 64 n [] h); each = λ c f. all_onto base l u c f 64 n [] tt; starts = by (n / base == 0) (first_onto base l u 63 (n / base) (n % base) [] (last base l u n)) }
  where
    by : (t : Bool) → (d : ℕ) × (ds : List ℕ) × (d < base) × (digits_onto 63 base false (n / base) (glyph (n % base) ∷ []) ≡ glyph d ∷ ds)
        → (d : ℕ) × (ds : List ℕ) × (d < base) × ((if t then glyph (n % base) ∷ [] else digits_onto 63 base false (n / base) (glyph (n % base) ∷ [])) ≡ glyph d ∷ ds)
    by true r = (n % base, [], last base l u n, refl)
    by false r = r

pub decimal_digits : (n : ℕ) → n < 2 ^ 64 → Digits 10 n (decimal n)
decimal_digits n h = digits_of 10 n (omega arith) (omega arith) (omega (arith, h))

pub hex_digits : (n : ℕ) → n < 2 ^ 64 → Digits 16 n (radix_digits 16 false n)
hex_digits n h = digits_of 16 n (omega arith) (omega arith) (omega (arith, h))
