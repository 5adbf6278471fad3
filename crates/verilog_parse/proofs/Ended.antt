-- The tokens of a text end with their one end, and can be written.
use Rattle.std.proofs.Common.{◌≡◌, ℕ, zero, suc, ◌+◌, ◌-◌, ◌==◌, ◌&&◌, ◌||◌, ◌^◌, Bool, true, false, not, List, [], ◌∷◌, length, take, drop, codes, Option, Some, None, refl, sym, ap, subst, ◌∙◌, ◌≢◌, ◌<◌, ◌≤◌, cond, arith, rules, if◌then◌else◌}
use Rattle.std.specs.Prelude.{Ok, Err, nat_lt, nat_le}
use Rattle.std.specs.List.{starts_with, list_any}
use Rattle.std.specs.Char.{is_ascii_digit}
use Rattle.cdc_base.specs.Bytes.{front, is_blank, is_word_start, in_class}
use Rattle.cdc_base.specs.declared.bytes.Class.{Class}
use Rattle.cdc_base.specs.declared.bytes.Class.TheVariants as class
use Rattle.cdc_base.specs.declared.fault.Place.{Place}
use Rattle.cdc_base.specs.declared.words.Keyword.{Keyword}
use Rattle.cdc_base.specs.Words.{keyword_of, is_left_out}
use Rattle.verilog_lex.specs.declared.marks.MarkKind.{MarkKind}
use Rattle.verilog_lex.specs.declared.token.Piece.{Piece}
use Rattle.verilog_lex.specs.declared.token.Piece.TheVariants as piece
use Rattle.verilog_lex.specs.declared.token.Token.{Token}
use Rattle.verilog_lex.specs.declared.token.TokenKind.{TokenKind}
use Rattle.verilog_lex.specs.declared.token.TokenKind.TheVariants as kind
use Rattle.verilog_lex.specs.Laws.{AllOf}
use Rattle.verilog_lex.specs.Marks.{mark_of}
use Rattle.verilog_lex.specs.Lines.{directive_of, is_form_of}
use Rattle.verilog_lex.specs.declared.spans.Within.TheVariants.{Outside}
use Rattle.cdc_base.specs.declared.size.NumberSize.TheVariants.{Plain, Unsized}
use Rattle.verilog_lex.specs.Numbers.{value_in, small, closed_value, is_open, base_of, value_by, width_of, allowed_width, plain_of, unsized_of, sized_of, open_in, open_above, mask_or, mask_in, mask_of, based_of}
use Rattle.verilog_lex.specs.Spans.{behind_comment, attribute_end}
use Rattle.verilog_lex.specs.Pieces.{piece_of, run, word_or, word_piece, escaped_piece, number_or, plain_piece, based_piece, number_piece, directive_piece, mark_or, mark_piece, closed, comment_piece, attribute_piece, is_event, extent}
use Rattle.verilog_lex.specs.Tokens.{tokens_from, tokens_of, joined, Lexed, next_place}
use Rattle.verilog_reading.specs.Lexemes.{Spot, end_of, end_in}
use Rattle.verilog_reading.specs.Refusals.{IsEnded}
use Rattle.std.proofs.Math.Nat.{mod-lt}
use Rattle.std.proofs.lemmas.Nat.{pow_pos}
use Rattle.verilog_parse.specs.Written.{Apart}
use Rattle.verilog_parse.proofs.Apart.{nothing_apart, digits_apart, whole_bits, apart_cut}
use Rattle.verilog_parse.proofs.Kept.{CanStand, Stand, s_end, s_more}

-- a token that begins a text can stand in it, and is no end
abbrev pub IsRead : TokenKind → Type 0
IsRead (kind.Word w) = Unit {0}
IsRead (kind.Ident n) = CanStand (kind.Ident n)
IsRead (kind.Number v w z) = CanStand (kind.Number v w z)
IsRead (kind.Mask v o w) = CanStand (kind.Mask v o w)
IsRead (kind.Mark m) = Unit {0}
IsRead kind.End = ⊥

abbrev pub Holds : Piece → Type 0
Holds (piece.Token k n) = IsRead k
Holds (piece.Blank n) = Unit {0}
Holds (piece.Broken e w) = Unit {0}

either_by : (c : Bool) (p q : Piece) → (c ≡ true → Holds p) → (c ≡ false → Holds q) → Holds (if c then p else q)
either_by true p q x y = x refl
either_by false p q x y = y refl

either : (c : Bool) (p q : Piece) → Holds p → Holds q → Holds (if c then p else q)
either c p q x y = either_by c p q (λ e. x) (λ e. y)

-- the bytes of a run, and its first
run_first : (c : Class) (b : ℕ) (bs : List ℕ) → in_class c b ≡ true → take (run c (b ∷ bs)) (b ∷ bs) ≡ b ∷ take (run c bs) bs
run_first c b bs h = ap (λ t. take (cond t (1 + run c bs) 0) (b ∷ bs)) h ∙ ap (λ n. take n (b ∷ bs)) (let e : 1 + run c bs ≡ suc (run c bs) = omega arith in e)

run_all : (c : Class) (text : List ℕ) → AllOf c (take (run c text) text)
run_all c [] = tt
run_all c (b ∷ bs) = by (in_class c b) refl (run_all c bs)
  where
    by : (t : Bool) → in_class c b ≡ t → AllOf c (take (run c bs) bs) → AllOf c (take (run c (b ∷ bs)) (b ∷ bs))
    by true e r = subst (AllOf c) (sym (run_first c b bs e)) (e, r)
    by false e r = subst (λ t. AllOf c (take (cond t (1 + run c bs) 0) (b ∷ bs))) (sym e) tt

some_first : (c : Class) (b : ℕ) (bs : List ℕ) → in_class c b ≡ true → take (run c (b ∷ bs)) (b ∷ bs) ≢ []
some_first c b bs h e = absurd (search (rules, sym (run_first c b bs h) ∙ e))

some_run : (c : Class) (text : List ℕ) → (run c text == 0) ≡ false → take (run c text) text ≢ []
some_run c [] h = absurd (search (rules, h))
some_run c (b ∷ bs) h = by (in_class c b) refl
  where
    by : (t : Bool) → in_class c b ≡ t → take (run c (b ∷ bs)) (b ∷ bs) ≢ []
    by true e = some_first c b bs e
    by false e = absurd (search (rules, subst (λ t. (cond t (1 + run c bs) 0 == 0) ≡ false) e h))

visible_byte : (b : ℕ) → in_class class.Word b ≡ true → in_class class.Visible b ≡ true
visible_byte b h = grind (arith, h)

visible : (bs : List ℕ) → AllOf class.Word bs → AllOf class.Visible bs
visible [] a = tt
visible (b ∷ bs) a = (visible_byte b a.0, visible bs a.1)

start_word : (b : ℕ) → is_word_start b ≡ true → in_class class.Word b ≡ true
start_word b h = grind (arith, h)

word_hold : (k : Option Keyword) (w : List ℕ) (n : ℕ) → w ≢ [] → AllOf class.Visible w → Holds (word_or k w n)
word_hold (Some k) w n h a = tt
word_hold None w n h a = either (is_left_out w) (piece.Broken 105 w) (piece.Token (kind.Ident w) n) tt (h, a)

words_hold : (text : List ℕ) → is_word_start (front text) ≡ true → Holds (word_piece text)
unfolding word_piece
words_hold [] h = absurd (search (rules, h))
words_hold (b ∷ bs) h = let text = b ∷ bs in
    word_hold (keyword_of (take (run class.Word text) text)) (take (run class.Word text) text) (run class.Word text) (some_first class.Word b bs (start_word b h)) (visible (take (run class.Word text) text) (run_all class.Word text))

neither : (x y : Bool) → (x || y) ≡ false → x ≡ false
neither true y h = absurd (search (rules, h))
neither false y h = refl

escaped_hold : (text : List ℕ) → Holds (escaped_piece text)
unfolding escaped_piece
escaped_hold text =
    let n = run class.Visible (drop 1 text) in
    either_by (n == 0 || not (is_blank (front (drop n (drop 1 text))))) (piece.Broken 101 []) (piece.Token (kind.Ident (take n (drop 1 text))) (n + 1)) (λ e. tt)
    (λ e. (some_run class.Visible (drop 1 text) (neither (n == 0) (not (is_blank (front (drop n (drop 1 text))))) e), run_all class.Visible (drop 1 text)))

less : (a b : ℕ) → nat_lt a b ≡ true → a < b
less a b h = grind (arith, h)

abbrev HoldsIf : Option TokenKind → Type 0
HoldsIf None = Unit {0}
HoldsIf (Some k) = IsRead k

number_hold : (k : Option TokenKind) (n : ℕ) → HoldsIf k → Holds (number_or k n)
number_hold None n h = tt
number_hold (Some k) n h = h

choice : (c : Bool) (x y : Option TokenKind) → (c ≡ true → HoldsIf x) → (c ≡ false → HoldsIf y) → HoldsIf (if c then x else y)
choice true x y f g = f refl
choice false x y f g = g refl

plain_hold : (v : Option ℕ) → HoldsIf (plain_of v)
plain_hold None = tt
plain_hold (Some v) = choice (nat_lt v (2 ^ 31)) (Some (kind.Number v 32 Plain)) None (λ e. (refl, less v (2 ^ 31) e)) (λ e. tt)

plains_hold : (digits : List ℕ) → Holds (plain_piece digits)
unfolding plain_piece
plains_hold digits = number_hold (plain_of (closed_value 10 digits)) (length digits) (plain_hold (closed_value 10 digits))

unsized_hold : (v : Option ℕ) → HoldsIf (unsized_of v)
unsized_hold None = tt
unsized_hold (Some v) = choice (nat_lt v (2 ^ 32)) (Some (kind.Number v 32 Unsized)) None (λ e. (refl, less v (2 ^ 32) e)) (λ e. tt)

sized_hold_of : (w v : Option ℕ) → ((m : ℕ) → w ≡ Some m → (1 ≤ m) × (m ≤ 64)) → HoldsIf (sized_of w v)
sized_hold_of None v h = tt
sized_hold_of (Some w) None h = tt
sized_hold_of (Some w) (Some v) h = ((h w refl).0, (h w refl).1, mod-lt v (pow_pos w))

within : (m : ℕ) → (nat_le 1 m && nat_le m 64) ≡ true → (1 ≤ m) × (m ≤ 64)
within m h = (grind (arith, h), grind (arith, h))

allowed : (o : Option ℕ) (m : ℕ) → allowed_width o ≡ Some m → (1 ≤ m) × (m ≤ 64)
allowed None m e = absurd (search (rules, e))
allowed (Some w) m e = by (nat_le 1 w && nat_le w 64) (λ h. within w h) e
  where
    by : (t : Bool) → (t ≡ true → (1 ≤ w) × (w ≤ 64)) → (if t then Some w else None) ≡ Some m → (1 ≤ m) × (m ≤ 64)
    by true f e = let z : w ≡ m = search (rules, e) in subst (λ z. (1 ≤ z) × (z ≤ 64)) z (f refl)
    by false f e = absurd (search (rules, e))

width_allowed : (size : List ℕ) (m : ℕ) → width_of size ≡ Some m → (1 ≤ m) × (m ≤ 64)
width_allowed size m e = allowed (closed_value 10 size) m e

mask_or_hold : (w : ℕ) (g v : Option ℕ) (bits : ℕ) → (1 ≤ w) × (w ≤ 64) → ((n : ℕ) → v ≡ Some n → Apart n bits) → HoldsIf (mask_or w g v bits)
mask_or_hold w None v bits h a = tt
mask_or_hold w (Some g) None bits h a = tt
mask_or_hold w (Some g) (Some v) bits h a = (h.0, h.1, mod-lt v (pow_pos w), mod-lt bits (pow_pos w), apart_cut v bits w (a v refl))

of_small : (o : Option ℕ) (n : ℕ) → small o ≡ Some n → o ≡ Some n
of_small None n e = absurd (search (rules, e))
of_small (Some m) n e = by (nat_lt m (2 ^ 128)) e
  where
    by : (t : Bool) → (if t then Some m else None) ≡ Some n → Some m ≡ Some n
    by true e = e
    by false e = absurd (search (rules, e))

read_apart : (base : ℕ) (digits : List ℕ) → (j : ℕ) × (base ≡ 2 ^ j) → (n : ℕ) → small (value_in base 0 0 digits) ≡ Some n → Apart n (open_in base (open_above digits) digits)
read_apart base digits (j, q) n e = subst (λ b. Apart n (open_in b (open_above digits) digits)) (sym q)
    (digits_apart j 0 (open_above digits) n digits (nothing_apart (open_above digits)) (of_small (value_in (2 ^ j) 0 0 digits) n (subst (λ b. small (value_in b 0 0 digits) ≡ Some n) q e)))

mask_hold : (w : Option ℕ) (letter : ℕ) (base : Option ℕ) (digits : List ℕ) → base_of letter ≡ base → ((m : ℕ) → w ≡ Some m → (1 ≤ m) × (m ≤ 64)) → HoldsIf (mask_of w base digits)
mask_hold None letter base digits q h = tt
mask_hold (Some w) letter None digits q h = tt
mask_hold (Some w) letter (Some base) digits q h = choice (base == 10) None (mask_in w base digits) (λ e. tt)
    (λ e. mask_or_hold w (small (value_in base (base - 1) 0 digits)) (small (value_in base 0 0 digits)) (open_in base (open_above digits) digits) (h w refl) (read_apart base digits (whole_bits letter base q e)))

based_hold : (size : List ℕ) (letter : ℕ) (figures : List ℕ) → HoldsIf (based_of size letter figures)
based_hold size letter figures =
    let value = value_by (base_of letter) figures in
    let mask = mask_of (width_of size) (base_of letter) figures in
    let sized = sized_of (width_of size) value in
    let closed = if list_any is_open figures then mask else sized in
    choice (length figures == 0 || front figures == 95) None (if length size == 0 then unsized_of value else closed) (λ e. tt)
    (λ e. choice (length size == 0) (unsized_of value) closed (λ e. unsized_hold value)
    (λ e. choice (list_any is_open figures) mask sized (λ e. mask_hold (width_of size) letter (base_of letter) figures refl (width_allowed size)) (λ e. sized_hold_of (width_of size) value (width_allowed size))))

sized_hold : (size : List ℕ) (before : ℕ) (rest : List ℕ) → Holds (based_piece size before rest)
unfolding based_piece
sized_hold size before rest =
    let blanks = run class.Blank (drop 2 rest) in
    let figures = drop blanks (drop 2 rest) in
    let count = run class.Figure figures in
    number_hold (based_of size (front (drop 1 rest)) (take count figures)) (before + 2 + blanks + count) (based_hold size (front (drop 1 rest)) (take count figures))

numbers_hold : (text : List ℕ) → Holds (number_piece text)
unfolding number_piece
numbers_hold text =
    let count = run class.Decimal text in
    let behind = drop count text in
    let blanks = run class.Blank behind in
    either (front (drop blanks behind) == 39) (based_piece (take count text) (count + blanks) (drop blanks behind)) (if in_class class.Word (front behind) then piece.Broken 103 [] else plain_piece (take count text))
    (sized_hold (take count text) (count + blanks) (drop blanks behind)) (either (in_class class.Word (front behind)) (piece.Broken 103 []) (plain_piece (take count text)) tt (plains_hold (take count text)))

directives_hold : (text : List ℕ) → Holds (directive_piece text)
unfolding directive_piece
directives_hold text =
    let line = take (run class.InLine text) text in
    let count = run class.Named (drop 1 line) in
    let name = take count (drop 1 line) in
    either (is_form_of (directive_of name) (drop count (drop 1 line))) (piece.Blank (run class.InLine text)) (piece.Broken 104 name) tt tt

mark_hold : (m : Option MarkKind) (n : ℕ) (p : Piece) → Holds p → Holds (mark_or m n p)
mark_hold (Some m) n p x = tt
mark_hold None n p x = x

marks_hold : (text : List ℕ) → Holds (mark_piece text)
unfolding mark_piece
marks_hold text =
    let one = mark_or (mark_of (take 1 text)) 1 (piece.Broken 101 []) in
    let two = mark_or (mark_of (take 2 text)) (length (take 2 text)) one in
    mark_hold (mark_of (take 3 text)) (length (take 3 text)) two (mark_hold (mark_of (take 2 text)) (length (take 2 text)) one (mark_hold (mark_of (take 1 text)) 1 (piece.Broken 101 []) tt))

closed_hold : (o : Option ℕ) → Holds (closed o)
closed_hold None = tt
closed_hold (Some n) = tt

comments_hold : (text : List ℕ) → Holds (comment_piece text)
unfolding comment_piece
comments_hold text = closed_hold (behind_comment (drop 2 text))

attributes_hold : (text : List ℕ) → Holds (attribute_piece text)
unfolding attribute_piece
attributes_hold text = closed_hold (attribute_end Outside (drop 2 text))

-- the forms of a piece, each before those that are tried behind it
abbrev attribute_or_mark : List ℕ → Piece
attribute_or_mark text = if starts_with ◌==◌ text (codes "(*") && not (is_event text) then attribute_piece text else mark_piece text

abbrev from_comment : List ℕ → Piece
from_comment text = if starts_with ◌==◌ text (codes "/*") then comment_piece text else attribute_or_mark text

abbrev from_line_comment : List ℕ → Piece
from_line_comment text = if starts_with ◌==◌ text (codes "//") then piece.Blank (run class.InLine text) else from_comment text

abbrev from_directive : List ℕ → Piece
from_directive text = if front text == 96 then directive_piece text else from_line_comment text

abbrev from_escaped : List ℕ → Piece
from_escaped text = if front text == 92 then escaped_piece text else from_directive text

abbrev from_based : List ℕ → Piece
from_based text = if front text == 39 then based_piece [] 0 text else from_escaped text

abbrev from_number : List ℕ → Piece
from_number text = if is_ascii_digit (front text) then number_piece text else from_based text

abbrev from_word : List ℕ → Piece
from_word text = if is_word_start (front text) then word_piece text else from_number text

attribute_or_mark_hold : (text : List ℕ) → Holds (attribute_or_mark text)
attribute_or_mark_hold text = either (starts_with ◌==◌ text (codes "(*") && not (is_event text)) (attribute_piece text) (mark_piece text) (attributes_hold text) (marks_hold text)

from_line_comment_hold : (text : List ℕ) → Holds (from_line_comment text)
from_line_comment_hold text = either (starts_with ◌==◌ text (codes "//")) (piece.Blank (run class.InLine text)) (from_comment text) tt
    (either (starts_with ◌==◌ text (codes "/*")) (comment_piece text) (attribute_or_mark text) (comments_hold text) (attribute_or_mark_hold text))

from_escaped_hold : (text : List ℕ) → Holds (from_escaped text)
from_escaped_hold text = either (front text == 92) (escaped_piece text) (from_directive text) (escaped_hold text)
    (either (front text == 96) (directive_piece text) (from_line_comment text) (directives_hold text) (from_line_comment_hold text))

from_number_hold : (text : List ℕ) → Holds (from_number text)
from_number_hold text = either (is_ascii_digit (front text)) (number_piece text) (from_based text) (numbers_hold text)
    (either (front text == 39) (based_piece [] 0 text) (from_escaped text) (sized_hold [] 0 text) (from_escaped_hold text))

piece_hold : (text : List ℕ) → Holds (piece_of text)
unfolding piece_of
piece_hold text = either (is_blank (front text)) (piece.Blank (run class.Blank text)) (from_word text) tt (either_by (is_word_start (front text)) (word_piece text) (from_number text) (λ e. words_hold text e) (λ e. from_number_hold text))

-- a token that is no end stands before tokens that end so
one_before : (t : Token) (ts : List Token) → end_in t ≡ None → IsEnded ts → IsEnded (t ∷ ts)
one_before t ts e w = (t ∷ w.0, w.1, ap (λ z. t ∷ z) w.2, (e, w.3))

no_end : (k : TokenKind) (s : Spot) → IsRead k → end_of k s ≡ None
no_end (kind.Word w) s h = refl
no_end (kind.Ident n) s h = refl
no_end (kind.Number v w z) s h = refl
no_end (kind.Mask v x w) s h = refl
no_end (kind.Mark m) s h = refl
no_end kind.End s h = absurd h

can_stand : (k : TokenKind) → IsRead k → CanStand k
can_stand (kind.Word w) h = tt
can_stand (kind.Ident n) h = h
can_stand (kind.Number v w z) h = h
can_stand (kind.Mask v x w) h = h
can_stand (kind.Mark m) h = tt
can_stand kind.End h = tt

-- the tokens of a text end with their one end, and can stand in a text
abbrev HeldIf : Lexed → Type 0
HeldIf (Ok ts) = IsEnded ts × Stand ts
HeldIf (Err f) = Unit {0}

joined_held : (at : ℕ) (p : Place) (q : Piece) (r : Lexed) → Holds q → HeldIf r → HeldIf (joined at p q r)
joined_held at p (piece.Blank n) r x y = y
joined_held at p (piece.Token k n) (Ok us) x y =
    (one_before (record { kind = k; place = p; start = at; «end» = at + n }) us (no_end k (record { place = p; start = at; stop = at + n }) x) y.0, s_more (can_stand k x) y.1)
joined_held at p (piece.Token k n) (Err f) x y = tt
joined_held at p (piece.Broken e w) r x y = tt

from_held : (at : ℕ) (p : Place) (k : ℕ) (text : List ℕ) → HeldIf (tokens_from at p k text)
unfolding tokens_from
from_held at p k [] = (([], record { place = p; start = at; stop = at }, refl, tt), s_more tt s_end)
from_held at p zero (b ∷ bs) = joined_held at p (piece_of (b ∷ bs)) (tokens_from (at + 1) (next_place p b) (extent (piece_of (b ∷ bs)) - 1) bs) (piece_hold (b ∷ bs)) (from_held (at + 1) (next_place p b) (extent (piece_of (b ∷ bs)) - 1) bs)
from_held at p (suc k) (b ∷ bs) = from_held (at + 1) (next_place p b) k bs

text_held : (text : List ℕ) (ts : List Token) → tokens_of text ≡ Ok ts → IsEnded ts × Stand ts
text_held text ts e = subst HeldIf e (from_held 0 (record { line = 1; column = 1 }) 0 text)

pub texts_are_ended : (text : List ℕ) (ts : List Token) → tokens_of text ≡ Ok ts → IsEnded ts
texts_are_ended text ts e = (text_held text ts e).0

pub texts_stand : (text : List ℕ) (ts : List Token) → tokens_of text ≡ Ok ts → Stand ts
texts_stand text ts e = (text_held text ts e).1
