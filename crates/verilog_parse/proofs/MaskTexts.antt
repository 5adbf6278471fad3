-- A printed mask, as the first piece of what it begins.
use Rattle.std.proofs.Common.{◌≡◌, ℕ, Bool, true, false, zero, suc, ◌<◌, ◌≤◌, ◌+◌, ◌-◌, ◌*◌, ◌%◌, ◌^◌, ◌==◌, List, ◌∷◌, ◌++◌, arith, refl, sym, ap, subst, ◌∙◌, length, append_assoc, codes, if◌then◌else◌}
use Rattle.std.specs.Prelude.{Option, Some, None, nat_lt, ◌||◌}
use Rattle.std.specs.Fmt.{decimal}
use Rattle.std.specs.Int.{bit_at}
use Rattle.std.specs.List.{list_any}
use Rattle.std.specs.Char.{is_ascii_digit}
use Rattle.std.proofs.Math.Arith.{mod-mul}
use Rattle.std.proofs.Math.Nat.{pow-zero, pow-suc, add-mul, mul_assoc, mul-le-mul_right, mod-eq_of_lt}
use Rattle.std.proofs.Math.Pow.{pow_mono}
use Rattle.std.proofs.lemmas.List.{length-append}
use Rattle.std.proofs.lemmas.Nat.{pow_pos, mod-mul-add}
use Rattle.std.proofs.lemmas.Nat.Bits.{bit_at-lt}
use Rattle.cdc_base.specs.declared.bytes.Class.TheVariants as class
use Rattle.cdc_base.specs.Bytes.{front, in_class}
use Rattle.verilog_lex.specs.declared.token.Piece.TheVariants.{Token}
use Rattle.verilog_lex.specs.declared.token.TokenKind.{TokenKind}
use Rattle.verilog_lex.specs.declared.token.TokenKind.TheVariants.{Mask}
use Rattle.verilog_lex.specs.Laws.{AllOf}
use Rattle.verilog_lex.specs.Numbers.{figure_value, value_in, small, is_open, opened, open_in, value_by, width_of, unsized_of, sized_of, mask_or, mask_in, mask_of, based_of}
use Rattle.verilog_lex.specs.Pieces.{piece_of, number_or}
use Rattle.verilog_parse.specs.Printed.{mask_digit, mask_digits, spelled_mask}
use Rattle.verilog_parse.specs.Written.{Apart}
use Rattle.verilog_parse.proofs.Numerals.{glyph, glyph_is_decimal, Digits, decimal_digits}
use Rattle.verilog_parse.proofs.NumberTexts.{below, glyph_is_digit, number_at, width_piece, figures_piece, no_zero, some_first, digits_width, first_opens}
use Rattle.verilog_parse.proofs.Spelled.{Is, opens, with_blank, if_false}

-- a digit, where an open one counts as fill
abbrev bit_value : ℕ → ℕ → ℕ → ℕ
bit_value fill v o = if o == 1 then fill else v

digit_value : (fill v o : ℕ) → v < 2 → figure_value fill (mask_digit v o) ≡ bit_value fill v o
digit_value fill v o h = by (o == 1)
  where
    by : (t : Bool) → figure_value fill (if t then 63 else 48 + v) ≡ (if t then fill else v)
    by true = refl
    by false = grind (arith, h)

digit_no_line : (v o : ℕ) → v < 2 → (mask_digit v o == 95) ≡ false
digit_no_line v o h = by (o == 1)
  where
    by : (t : Bool) → ((if t then 63 else 48 + v) == 95) ≡ false
    by true = refl
    by false = grind (arith, h)

digit_is_figure : (v o : ℕ) → v < 2 → in_class class.Figure (mask_digit v o) ≡ true
digit_is_figure v o h = by (o == 1)
  where
    by : (t : Bool) → in_class class.Figure (if t then 63 else 48 + v) ≡ true
    by true = refl
    by false = grind (arith, h)

bit_below : (fill v o : ℕ) → v < 2 → fill < 2 → bit_value fill v o < 2
bit_below fill v o h l = by (o == 1)
  where
    by : (t : Bool) → (if t then fill else v) < 2
    by true = l
    by false = h

bit_closed : (v o : ℕ) → (o ≡ 1 → v ≡ 0) → bit_value 0 v o ≡ v
bit_closed v o h = by (o == 1) refl
  where
    by : (t : Bool) → (o == 1) ≡ t → (if t then 0 else v) ≡ v
    by true e = let z : o ≡ 1 = grind (arith, e) in sym (h z)
    by false e = refl

bit_opened : (v o : ℕ) → v < 2 → o < 2 → opened 2 (mask_digit v o) ≡ o
bit_opened v o h l = by (o == 1) refl
  where
    by : (t : Bool) → (o == 1) ≡ t → opened 2 (if t then 63 else 48 + v) ≡ o
    by true e = grind (arith, e)
    by false e = grind (arith, e, h, l)

-- a bit goes on with the number that those before it write
next_digit : (fill n v o : ℕ) (ds : List ℕ) → v < 2 → fill < 2 → value_in 2 fill n (mask_digit v o ∷ ds) ≡ value_in 2 fill (n * 2 + bit_value fill v o) ds
next_digit fill n v o ds h l =
    ap (λ t. if t then value_in 2 fill n ds else (if nat_lt (figure_value fill (mask_digit v o)) 2 then value_in 2 fill (n * 2 + figure_value fill (mask_digit v o)) ds else None)) (digit_no_line v o h)
    ∙ ap (λ f. if nat_lt f 2 then value_in 2 fill (n * 2 + f) ds else None) (digit_value fill v o h)
    ∙ ap (λ t. if t then value_in 2 fill (n * 2 + bit_value fill v o) ds else None) (below (bit_value fill v o) 2 (bit_below fill v o h l))

next_open : (n v o : ℕ) (ds : List ℕ) → v < 2 → o < 2 → open_in 2 n (mask_digit v o ∷ ds) ≡ open_in 2 (n * 2 + o) ds
next_open n v o ds h l = if_false (mask_digit v o == 95) (open_in 2 n ds) (open_in 2 (n * 2 + opened 2 (mask_digit v o)) ds) (digit_no_line v o h)
    ∙ ap (λ z. open_in 2 (n * 2 + z) ds) (bit_opened v o h l)

twice : (k : ℕ) → 2 * 2 ^ k ≡ 2 ^ suc k
twice k = omega (arith, pow-suc 2 k)

shifted : (k n b r : ℕ) → (n * 2 + b) * 2 ^ k + r ≡ n * 2 ^ suc k + (b * 2 ^ k + r)
shifted k n b r = let e = add-mul (n * 2) b (2 ^ k) in let f = mul_assoc n 2 (2 ^ k) in let g = ap (λ z. n * z) (twice k) in omega (arith, e, f, g)

low_bits : (v k : ℕ) → v % 2 ^ suc k ≡ bit_at v k * 2 ^ k + v % 2 ^ k
low_bits v k = ap (λ z. v % z) (sym (twice k)) ∙ mod-mul v (omega arith) (pow_pos k)

no_bits : (n v : ℕ) → n ≡ n * 2 ^ 0 + v % 2 ^ 0
no_bits n v = (let e : n ≡ n * 1 + v % 1 = omega arith in e) ∙ ap (λ p. n * p + v % p) (sym (pow-zero 2))

-- the digits write the value, an open one as 0
value_digits : (k n v o : ℕ) → Apart v o → value_in 2 0 n (mask_digits k v o) ≡ Some (n * 2 ^ k + v % 2 ^ k)
value_digits zero n v o a = ap Some (no_bits n v)
value_digits (suc k) n v o a = next_digit 0 n (bit_at v k) (bit_at o k) (mask_digits k v o) (bit_at-lt v k) (omega arith)
    ∙ ap (λ z. value_in 2 0 (n * 2 + z) (mask_digits k v o)) (bit_closed (bit_at v k) (bit_at o k) (a k))
    ∙ value_digits k (n * 2 + bit_at v k) v o a
    ∙ ap Some (shifted k n (bit_at v k) (v % 2 ^ k) ∙ ap (λ z. n * 2 ^ suc k + z) (sym (low_bits v k)))

open_digits : (k n v o : ℕ) → open_in 2 n (mask_digits k v o) ≡ n * 2 ^ k + o % 2 ^ k
open_digits zero n v o = no_bits n o
open_digits (suc k) n v o = next_open n (bit_at v k) (bit_at o k) (mask_digits k v o) (bit_at-lt v k) (bit_at-lt o k)
    ∙ open_digits k (n * 2 + bit_at o k) v o
    ∙ (shifted k n (bit_at o k) (o % 2 ^ k) ∙ ap (λ z. n * 2 ^ suc k + z) (sym (low_bits o k)))

-- and a number that is not too great where open digits are
greatest : (k n v o : ℕ) → (m : ℕ) × (value_in 2 1 n (mask_digits k v o) ≡ Some m) × (m < (n + 1) * 2 ^ k)
greatest zero n v o = let e : (n + 1) * 2 ^ 0 ≡ (n + 1) * 1 = ap (λ p. (n + 1) * p) (pow-zero 2) in (n, refl, omega (arith, e))
greatest (suc k) n v o =
    let b = bit_value 1 (bit_at v k) (bit_at o k) in
    let r = greatest k (n * 2 + b) v o in
    let l : b < 2 = bit_below 1 (bit_at v k) (bit_at o k) (bit_at-lt v k) (omega arith) in
    let i : n * 2 + b + 1 ≤ (n + 1) * 2 = omega (arith, l) in
    let m : (n * 2 + b + 1) * 2 ^ k ≤ (n + 1) * 2 * 2 ^ k = mul-le-mul_right (2 ^ k) i in
    let e = mul_assoc (n + 1) 2 (2 ^ k) in
    let f = ap (λ z. (n + 1) * z) (twice k) in
    (r.0, next_digit 1 n (bit_at v k) (bit_at o k) (mask_digits k v o) (bit_at-lt v k) (omega arith) ∙ r.1, omega (arith, r.2, m, e, f))

small_greatest : (m w : ℕ) → m < 2 * 2 ^ w → w ≤ 64 → small (Some m) ≡ Some m
small_greatest m w h u = ap (λ t. if t then Some m else None) (below m (2 ^ 128) (omega (arith, h, pow_mono u)))

-- what the figures of a mask write
mask_value : (v o w : ℕ) → w ≤ 64 → v < 2 ^ w → o < 2 ^ w → Apart v o → mask_in w 2 (63 ∷ mask_digits w v o) ≡ Some (Mask v o w)
mask_value v o w u h l a =
    let ds = mask_digits w v o in
    let g = greatest w 1 v o in
    ap (λ z. mask_or w (small z) (small (value_in 2 0 0 (63 ∷ ds))) (open_in 2 (2 ^ 64 - 1) (63 ∷ ds))) g.1
    ∙ ap (λ z. mask_or w z (small (value_in 2 0 0 (63 ∷ ds))) (open_in 2 (2 ^ 64 - 1) (63 ∷ ds))) (small_greatest g.0 w (omega (arith, g.2)) u)
    ∙ ap (λ z. mask_or w (Some g.0) (small z) (open_in 2 (2 ^ 64 - 1) (63 ∷ ds))) (value_digits w 0 v o a ∙ ap (λ z. Some (0 * 2 ^ w + z)) (mod-eq_of_lt h))
    ∙ ap (λ z. mask_or w (Some g.0) z (open_in 2 (2 ^ 64 - 1) (63 ∷ ds))) (small_greatest (0 * 2 ^ w + v) w (omega (arith, h)) u)
    ∙ ap (λ z. Some (Mask ((0 * 2 ^ w + v) % 2 ^ w) (z % 2 ^ w) w)) (open_digits w ((2 ^ 64 - 1) * 2 + 1) v o ∙ ap (λ z. ((2 ^ 64 - 1) * 2 + 1) * 2 ^ w + z) (mod-eq_of_lt l))
    ∙ ap (λ z. Some (Mask z ((((2 ^ 64 - 1) * 2 + 1) * 2 ^ w + o) % 2 ^ w) w)) (mod-mul-add 0 (2 ^ w) v h)
    ∙ ap (λ z. Some (Mask v z w)) (mod-mul-add ((2 ^ 64 - 1) * 2 + 1) (2 ^ w) o l)

all_figures : (k v o : ℕ) → AllOf class.Figure (mask_digits k v o)
all_figures zero v o = tt
all_figures (suc k) v o = (digit_is_figure (bit_at v k) (bit_at o k) (bit_at-lt v k), all_figures k v o)

-- behind a size
sized_mask : (b w : ℕ) (bs ds : List ℕ) → width_of (b ∷ bs) ≡ Some w → based_of (b ∷ bs) 98 (63 ∷ ds) ≡ mask_in w 2 (63 ∷ ds)
sized_mask b w bs ds e =
    if_false (length (63 ∷ ds) == 0 || 63 == 95) None (if length (b ∷ bs) == 0 then unsized_of (value_by (Some 2) (63 ∷ ds)) else inner) (some_first 63 ds refl)
    ∙ if_false (length (b ∷ bs) == 0) (unsized_of (value_by (Some 2) (63 ∷ ds))) inner (no_zero b bs)
    ∙ ap (λ z. mask_of z (Some 2) (63 ∷ ds)) e
  where
    inner : Option TokenKind
    inner = if list_any is_open (63 ∷ ds) then mask_of (width_of (b ∷ bs)) (Some 2) (63 ∷ ds) else sized_of (width_of (b ∷ bs)) (value_by (Some 2) (63 ∷ ds))

mask_piece : (size rest bs : List ℕ) (b v o w : ℕ) → size ≡ glyph b ∷ bs → b < 10 → Digits 10 w size → 1 ≤ w → w ≤ 64 → v < 2 ^ w → o < 2 ^ w → Apart v o
    → Is (Mask v o w) (size ++ (39 ∷ (98 ∷ (63 ∷ mask_digits w v o)))) rest
mask_piece size rest bs b v o w e i m n u h l a =
    let ds = mask_digits w v o in
    ap piece_of (append_assoc size (39 ∷ (98 ∷ (63 ∷ ds))) (32 ∷ rest))
    ∙ number_at (size ++ (39 ∷ (98 ∷ with_blank (63 ∷ ds) rest))) (subst (λ z. is_ascii_digit (front (z ++ (39 ∷ (98 ∷ with_blank (63 ∷ ds) rest)))) ≡ true) (sym e) (glyph_is_digit b i))
    ∙ width_piece size (98 ∷ with_blank (63 ∷ ds) rest) (m.each class.Decimal glyph_is_decimal)
    ∙ figures_piece size (length size + 0) 98 63 ds rest refl (refl, all_figures w v o)
    ∙ ap (λ k. number_or k (length size + 0 + 2 + 0 + length (63 ∷ ds))) value
    ∙ ap (Token (Mask v o w)) (let g : length size + 0 + 2 + 0 + length (63 ∷ mask_digits w v o) ≡ length (size ++ (39 ∷ (98 ∷ (63 ∷ mask_digits w v o)))) = omega (arith, length-append size (39 ∷ (98 ∷ (63 ∷ mask_digits w v o)))) in g)
  where
    value : based_of size 98 (63 ∷ mask_digits w v o) ≡ Some (Mask v o w)
    value = subst (λ z. based_of z 98 (63 ∷ mask_digits w v o) ≡ Some (Mask v o w)) (sym e)
        (sized_mask (glyph b) w bs (mask_digits w v o) (digits_width w (glyph b) bs n u (subst (λ z. value_in 10 16 0 z ≡ Some w) e m.value)) ∙ mask_value v o w u h l a)

pub mask_text : (v o w : ℕ) (rest : List ℕ) → 1 ≤ w → w ≤ 64 → v < 2 ^ w → o < 2 ^ w → Apart v o → Is (Mask v o w) (spelled_mask v o w) rest
mask_text v o w rest n u h l a = let m = decimal_digits w (omega (arith, u)) in mask_piece (decimal w) rest m.starts.1 m.starts.0 v o w m.starts.3 m.starts.2 m n u h l a

pub mask_opens : (v o w : ℕ) (rest : List ℕ) → w < 2 ^ 64 → opens (front (with_blank (spelled_mask v o w) rest)) ≡ true
mask_opens v o w rest l = let n = decimal_digits w l in
    subst (λ z. opens (front z) ≡ true) (sym (append_assoc (decimal w) (codes "'b?" ++ mask_digits w v o) (32 ∷ rest)))
    (first_opens (decimal w) ((codes "'b?" ++ mask_digits w v o) ++ (32 ∷ rest)) n.starts.1 n.starts.0 n.starts.3 n.starts.2)
