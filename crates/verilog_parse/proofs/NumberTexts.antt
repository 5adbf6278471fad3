-- A printed number, as the first piece of what it begins.
use Rattle.std.proofs.Common.{◌≡◌, ℕ, true, false, ◌<◌, ◌≤◌, ◌+◌, ◌==◌, ◌%◌, ◌^◌, List, [], ◌∷◌, ◌++◌, arith, refl, sym, ap, subst, ◌∙◌, cond, length, take, drop, append_assoc, codes}
use Rattle.std.specs.Prelude.{Option, Some, None, nat_lt, nat_le, ◌&&◌, ◌||◌, if◌then◌else◌}
use Rattle.std.specs.List.{list_any}
use Rattle.cdc_base.specs.declared.size.NumberSize.TheVariants.{Plain, Unsized, Sized}
use Rattle.std.specs.Char.{is_ascii_digit}
use Rattle.std.specs.Fmt.{decimal, radix_digits, digits}
use Rattle.std.proofs.Math.Nat.{mod-eq_of_lt}
use Rattle.std.proofs.Math.Pow.{pow_mono}
use Rattle.std.proofs.lemmas.List.{length-append}
use Rattle.cdc_base.specs.declared.bytes.Class.TheVariants as class
use Rattle.cdc_base.specs.Bytes.{front, in_class, is_blank, is_word_start}
use Rattle.verilog_lex.specs.declared.token.Piece.{Piece}
use Rattle.verilog_lex.specs.declared.token.Piece.TheVariants.{Token, Broken}
use Rattle.verilog_lex.specs.declared.token.TokenKind.{TokenKind}
use Rattle.verilog_lex.specs.declared.token.TokenKind.TheVariants.{Number}
use Rattle.verilog_lex.specs.Laws.{AllOf}
use Rattle.verilog_lex.specs.Numbers.{value_in, small, closed_value, is_open, width_of, allowed_width, plain_of, unsized_of, sized_of, mask_of, based_of}
use Rattle.verilog_lex.specs.Pieces.{piece_of, number_piece, based_piece, number_or, plain_piece, run}
use Rattle.verilog_lex.proofs.Classes.{run_length, plain_run}
use Rattle.verilog_parse.specs.Printed.{spelled_number}
use Rattle.verilog_parse.proofs.Numerals.{glyph, glyph_is_no_line, glyph_is_decimal, glyph_is_figure, Digits, decimal_digits, hex_digits}
use Rattle.verilog_parse.proofs.Spelled.{Is, NoQuote, no_quote_behind, opens, with_blank, take_front, drop_front, if_true, if_false}

pub below : (a b : ℕ) → a < b → nat_lt a b ≡ true
below a b h = grind (arith, h)

not_above : (a b : ℕ) → a ≤ b → nat_le a b ≡ true
not_above a b h = grind (arith, h)

pub small_value : (n : ℕ) → n < 2 ^ 64 → small (Some n) ≡ Some n
small_value n h = ap (λ t. if t then Some n else None) (below n (2 ^ 128) (omega (arith, h)))

pub below_word : (v w : ℕ) → v < 2 ^ w → w ≤ 64 → v < 2 ^ 64
below_word v w h u = omega (arith, h, pow_mono u)

plain_value : (v : ℕ) (ds : List ℕ) → v < 2 ^ 31 → value_in 10 16 0 ds ≡ Some v → plain_piece ds ≡ Token (Number v 32 Plain) (length ds)
unfolding plain_piece
plain_value v ds h e = ap (λ o. number_or (plain_of (small o)) (length ds)) e ∙ ap (λ o. number_or (plain_of o) (length ds)) (small_value v (omega (arith, h)))
    ∙ ap (λ t. number_or (if t then Some (Number v 32 Plain) else None) (length ds)) (below v (2 ^ 31) h)

pub glyph_is_digit : (d : ℕ) → d < 10 → is_ascii_digit (glyph d) ≡ true
glyph_is_digit d h = grind (arith, h)

-- a plain number with a blank behind it, behind which no `'` follows
pub plain_text : (v : ℕ) (rest : List ℕ) → v < 2 ^ 31 → NoQuote rest → Is (Number v 32 Plain) (decimal v) rest
plain_text v rest h q = let n = decimal_digits v (omega (arith, h)) in by (decimal v) n n.starts
  where
    by : (text : List ℕ) → Digits 10 v text → (d : ℕ) × (ds : List ℕ) × (d < 10) × (text ≡ glyph d ∷ ds) → Is (Number v 32 Plain) text rest
    by text n (d, ds, l, e) = subst (λ z. Is (Number v 32 Plain) z rest) (sym e)
        (plain_run (glyph d) ds (32 ∷ rest) (glyph_is_digit d l) (subst (AllOf class.Decimal) e (n.each class.Decimal glyph_is_decimal)) refl (no_quote_behind 32 rest refl q) refl
        ∙ plain_value v (glyph d ∷ ds) h (subst (λ z. value_in 10 16 0 z ≡ Some v) e n.value))

digit_no_start : (b : ℕ) → is_ascii_digit b ≡ true → (is_blank b ≡ false) × (is_word_start b ≡ false)
digit_no_start b h = (grind (arith, h), grind (arith, h))

pub number_at : (text : List ℕ) → is_ascii_digit (front text) ≡ true → piece_of text ≡ number_piece text
unfolding piece_of
number_at text h = let n = digit_no_start (front text) h in
    if_false (is_blank (front text)) _ _ n.0 ∙ if_false (is_word_start (front text)) _ _ n.1 ∙ if_true (is_ascii_digit (front text)) _ _ h

-- behind the digits of the width the base begins
pub width_piece : (size xs : List ℕ) → AllOf class.Decimal size → number_piece (size ++ (39 ∷ xs)) ≡ based_piece size (length size + 0) (39 ∷ xs)
unfolding number_piece
width_piece size xs a =
    ap (λ n. whole n (drop n text)) (run_length class.Decimal size (39 ∷ xs) a refl) ∙ ap (whole (length size)) (drop_front size (39 ∷ xs))
    ∙ ap (λ z. based_piece z (length size + 0) (39 ∷ xs)) (take_front size (39 ∷ xs))
  where
    text : List ℕ
    text = size ++ (39 ∷ xs)

    whole : ℕ → List ℕ → Piece
    whole n behind = let blanks = run class.Blank behind in let rest = drop blanks behind in
        if front rest == 39 then based_piece (take n text) (n + blanks) rest else (if in_class class.Word (front behind) then Broken 103 [] else plain_piece (take n text))

-- the digits behind the base end at the blank
pub figures_piece : (size : List ℕ) (before letter d : ℕ) (ds rest : List ℕ) → is_blank d ≡ false → AllOf class.Figure (d ∷ ds)
    → based_piece size before (39 ∷ (letter ∷ with_blank (d ∷ ds) rest)) ≡ number_or (based_of size letter (d ∷ ds)) (before + 2 + 0 + length (d ∷ ds))
unfolding based_piece
figures_piece size before letter d ds rest p a =
    ap (λ t. whole (cond t (1 + run class.Blank (with_blank ds rest)) 0)) p
    ∙ ap (λ n. number_or (based_of size letter (take n (with_blank (d ∷ ds) rest))) (before + 2 + 0 + n)) (run_length class.Figure (d ∷ ds) (32 ∷ rest) a refl)
    ∙ ap (λ z. number_or (based_of size letter z) (before + 2 + 0 + length (d ∷ ds))) (take_front (d ∷ ds) (32 ∷ rest))
  where
    whole : ℕ → Piece
    whole blanks = let figures = drop blanks (with_blank (d ∷ ds) rest) in let count = run class.Figure figures in
        number_or (based_of size letter (take count figures)) (before + 2 + blanks + count)

pub no_zero : (b : ℕ) (bs : List ℕ) → (length (b ∷ bs) == 0) ≡ false
no_zero b bs = grind arith

pub some_first : (d : ℕ) (ds : List ℕ) → (d == 95) ≡ false → (length (d ∷ ds) == 0 || d == 95) ≡ false
some_first d ds q = ap (λ t. t || d == 95) (no_zero d ds) ∙ q

-- digits behind a base alone
unsized_value : (d v : ℕ) (ds : List ℕ) → (d == 95) ≡ false → small (value_in 16 16 0 (d ∷ ds)) ≡ Some v → v < 2 ^ 32 → based_of [] 104 (d ∷ ds) ≡ Some (Number v 32 Unsized)
unsized_value d v ds q e h =
    if_false (length (d ∷ ds) == 0 || d == 95) None (unsized_of (closed_value 16 (d ∷ ds))) (some_first d ds q)
    ∙ ap unsized_of e ∙ ap (λ t. if t then Some (Number v 32 Unsized) else None) (below v (2 ^ 32) h)

-- digits behind a size and a base
sized_value : (b d w v : ℕ) (bs ds : List ℕ) → (d == 95) ≡ false → list_any is_open (d ∷ ds) ≡ false → width_of (b ∷ bs) ≡ Some w
    → small (value_in 16 16 0 (d ∷ ds)) ≡ Some v → based_of (b ∷ bs) 104 (d ∷ ds) ≡ Some (Number (v % 2 ^ w) w Sized)
sized_value b d w v bs ds q o e f =
    if_false (length (d ∷ ds) == 0 || d == 95) None (if length (b ∷ bs) == 0 then unsized_of (closed_value 16 (d ∷ ds)) else inner) (some_first d ds q)
    ∙ if_false (length (b ∷ bs) == 0) (unsized_of (closed_value 16 (d ∷ ds))) inner (no_zero b bs)
    ∙ if_false (list_any is_open (d ∷ ds)) (mask_of (width_of (b ∷ bs)) (Some 16) (d ∷ ds)) (sized_of (width_of (b ∷ bs)) (closed_value 16 (d ∷ ds))) o
    ∙ ap (λ z. sized_of z (closed_value 16 (d ∷ ds))) e ∙ ap (sized_of (Some w)) f
  where
    inner : Option TokenKind
    inner = if list_any is_open (d ∷ ds) then mask_of (width_of (b ∷ bs)) (Some 16) (d ∷ ds) else sized_of (width_of (b ∷ bs)) (closed_value 16 (d ∷ ds))

pub digits_width : (w b : ℕ) (bs : List ℕ) → 1 ≤ w → w ≤ 64 → value_in 10 16 0 (b ∷ bs) ≡ Some w → width_of (b ∷ bs) ≡ Some w
digits_width w b bs l u e = ap (λ o. allowed_width (small o)) e ∙ ap allowed_width (small_value w (omega (arith, u)))
    ∙ ap (λ t. if t then Some w else None) (ap (λ t. t && nat_le w 64) (not_above 1 w l) ∙ not_above w 64 u)

glyph_no_blank : (d : ℕ) → d < 16 → is_blank (glyph d) ≡ false
glyph_no_blank d h = grind (arith, h)

-- a number with its width, with a blank behind it
sized_digits : (size hex rest bs ds : List ℕ) (b d w v : ℕ) → size ≡ glyph b ∷ bs → hex ≡ glyph d ∷ ds → b < 10 → d < 16 → Digits 10 w size → Digits 16 v hex
    → 1 ≤ w → w ≤ 64 → v < 2 ^ w → Is (Number v w Sized) (size ++ (39 ∷ (104 ∷ hex))) rest
sized_digits size hex rest bs ds b d w v e f i j m n l u h =
    ap piece_of (append_assoc size (39 ∷ (104 ∷ hex)) (32 ∷ rest))
    ∙ number_at (size ++ (39 ∷ (104 ∷ with_blank hex rest))) (subst (λ z. is_ascii_digit (front (z ++ (39 ∷ (104 ∷ with_blank hex rest)))) ≡ true) (sym e) (glyph_is_digit b i))
    ∙ width_piece size (104 ∷ with_blank hex rest) (m.each class.Decimal glyph_is_decimal)
    ∙ subst (λ z. based_piece size (length size + 0) (39 ∷ (104 ∷ with_blank z rest)) ≡ number_or (based_of size 104 z) (length size + 0 + 2 + 0 + length z)) (sym f)
    (figures_piece size (length size + 0) 104 (glyph d) ds rest (glyph_no_blank d j) (subst (AllOf class.Figure) f (n.each class.Figure glyph_is_figure)))
    ∙ ap (λ k. number_or k (length size + 0 + 2 + 0 + length hex)) value
    ∙ ap (λ z. Token (Number z w Sized) (length size + 0 + 2 + 0 + length hex)) (mod-eq_of_lt h)
    ∙ ap (Token (Number v w Sized)) (let g : length size + 0 + 2 + 0 + length hex ≡ length (size ++ (39 ∷ (104 ∷ hex))) = omega (arith, length-append size (39 ∷ (104 ∷ hex))) in g)
  where
    value : based_of size 104 hex ≡ Some (Number (v % 2 ^ w) w Sized)
    value = subst (λ z. based_of z 104 hex ≡ Some (Number (v % 2 ^ w) w Sized)) (sym e) (subst (λ z. based_of (glyph b ∷ bs) 104 z ≡ Some (Number (v % 2 ^ w) w Sized)) (sym f)
        (sized_value (glyph b) (glyph d) w v bs ds (glyph_is_no_line d j) (subst (λ z. list_any is_open z ≡ false) f n.closed)
        (digits_width w (glyph b) bs l u (subst (λ z. value_in 10 16 0 z ≡ Some w) e m.value))
        (subst (λ z. small (value_in 16 16 0 z) ≡ Some v) f (ap small n.value ∙ small_value v (below_word v w h u)))))

pub sized_text : (v w : ℕ) (rest : List ℕ) → 1 ≤ w → w ≤ 64 → v < 2 ^ w → Is (Number v w Sized) (spelled_number v w Sized) rest
sized_text v w rest l u h =
    let m = decimal_digits w (omega (arith, u)) in
    let n = hex_digits v (below_word v w h u) in
    sized_digits (decimal w) (radix_digits 16 false v) rest m.starts.1 n.starts.1 m.starts.0 n.starts.0 w v m.starts.3 n.starts.3 m.starts.2 n.starts.2 m n l u h

base_at : (xs : List ℕ) → piece_of (39 ∷ xs) ≡ based_piece [] 0 (39 ∷ xs)
unfolding piece_of
base_at xs = refl

-- a number with a base alone, with a blank behind it
unsized_digits : (hex rest ds : List ℕ) (d v : ℕ) → hex ≡ glyph d ∷ ds → d < 16 → Digits 16 v hex → v < 2 ^ 32 → Is (Number v 32 Unsized) (39 ∷ (104 ∷ hex)) rest
unsized_digits hex rest ds d v f j n h =
    base_at (104 ∷ with_blank hex rest)
    ∙ subst (λ z. based_piece [] 0 (39 ∷ (104 ∷ with_blank z rest)) ≡ number_or (based_of [] 104 z) (0 + 2 + 0 + length z)) (sym f)
    (figures_piece [] 0 104 (glyph d) ds rest (glyph_no_blank d j) (subst (AllOf class.Figure) f (n.each class.Figure glyph_is_figure)))
    ∙ ap (λ k. number_or k (0 + 2 + 0 + length hex)) value
    ∙ ap (Token (Number v 32 Unsized)) (let g : 0 + 2 + 0 + length hex ≡ length (39 ∷ (104 ∷ hex)) = omega arith in g)
  where
    value : based_of [] 104 hex ≡ Some (Number v 32 Unsized)
    value = subst (λ z. based_of [] 104 z ≡ Some (Number v 32 Unsized)) (sym f)
        (unsized_value (glyph d) v ds (glyph_is_no_line d j) (subst (λ z. small (value_in 16 16 0 z) ≡ Some v) f (ap small n.value ∙ small_value v (omega (arith, h)))) h)

pub unsized_text : (v : ℕ) (rest : List ℕ) → v < 2 ^ 32 → Is (Number v 32 Unsized) (spelled_number v 32 Unsized) rest
unsized_text v rest h = let n = hex_digits v (omega (arith, h)) in unsized_digits (radix_digits 16 false v) rest n.starts.1 n.starts.0 v n.starts.3 n.starts.2 n h

glyph_opens : (d : ℕ) → d < 10 → opens (glyph d) ≡ true
glyph_opens d h = grind (arith, h)

pub first_opens : (digits behind bs : List ℕ) (d : ℕ) → digits ≡ glyph d ∷ bs → d < 10 → opens (front (digits ++ behind)) ≡ true
first_opens digits behind bs d e h = subst (λ z. opens (front (z ++ behind)) ≡ true) (sym e) (glyph_opens d h)

pub plain_opens : (v : ℕ) (rest : List ℕ) → v < 2 ^ 64 → opens (front (with_blank (decimal v) rest)) ≡ true
plain_opens v rest h = let n = decimal_digits v h in first_opens (decimal v) (32 ∷ rest) n.starts.1 n.starts.0 n.starts.3 n.starts.2

pub sized_opens : (v w : ℕ) (rest : List ℕ) → w < 2 ^ 64 → opens (front (with_blank (spelled_number v w Sized) rest)) ≡ true
sized_opens v w rest l = let n = decimal_digits w l in
    subst (λ z. opens (front z) ≡ true) (sym (append_assoc (decimal w) (codes "'h" ++ radix_digits 16 false v) (32 ∷ rest)))
    (first_opens (decimal w) ((codes "'h" ++ radix_digits 16 false v) ++ (32 ∷ rest)) n.starts.1 n.starts.0 n.starts.3 n.starts.2)
