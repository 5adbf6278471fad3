-- The numbers of the rules that a text's tokens may break.
use Rattle.std.proofs.Common.{◌≡◌, ℕ, zero, suc, ◌+◌, ◌-◌, Bool, true, false, if◌then◌else◌, ◌&&◌, ◌==◌, not, codes, List, [], ◌∷◌, length, take, Option, Some, None, Result, Ok, Err, refl, subst}
use Rattle.std.specs.Prelude.{IfErr}
use Rattle.std.specs.List.{starts_with}
use Rattle.std.specs.Char.{is_ascii_digit}
use Rattle.cdc_base.specs.Bytes.{front, is_blank, is_word_start}
use Rattle.cdc_base.specs.declared.bytes.Class.TheVariants.{InLine}
use Rattle.cdc_base.specs.declared.bytes.Class.TheVariants as class
use Rattle.cdc_base.specs.declared.fault.Fault.{Fault}
use Rattle.cdc_base.specs.declared.fault.Place.{Place}
use Rattle.cdc_base.specs.declared.fault.Stop.{Stop}
use Rattle.cdc_base.specs.declared.fault.Stop.TheVariants.{Refused, Memory}
use Rattle.cdc_base.specs.declared.words.Keyword.{Keyword}
use Rattle.verilog_lex.specs.declared.marks.MarkKind.{MarkKind}
use Rattle.verilog_lex.specs.declared.token.Piece.{Piece}
use Rattle.verilog_lex.specs.declared.token.Piece.TheVariants.{Blank, Broken}
use Rattle.verilog_lex.specs.declared.token.Piece.TheVariants as piece
use Rattle.verilog_lex.specs.declared.token.Token.{Token}
use Rattle.verilog_lex.specs.declared.token.TokenKind.{TokenKind}
use Rattle.verilog_lex.specs.Pieces.{piece_of, word_or, word_piece, escaped_piece, number_or, plain_piece, based_piece, number_piece, directive_piece, mark_or, mark_piece, closed, comment_piece, attribute_piece, extent, run, is_event}
use Rattle.verilog_lex.specs.Tokens.{Lexed, joined, tokens_from, tokens_of, next_place}
use Rattle.verilog_lex.specs.Marks.{mark_of}
use Rattle.refusals.specs.Numbers.{is_listed, token_numbers, HasNumberIn}

-- a broken piece has one of the numbers
IsListed : Piece → Type 0
IsListed (Broken e w) = is_listed token_numbers e ≡ true
IsListed _ = Unit {0}

-- tokens, or a refusal with one of the numbers
HasListed : Lexed → Type 0
HasListed r = IfErr r (λ (f : Fault). is_listed token_numbers f.number ≡ true)

refuse : (e : ℕ) (w : List ℕ) → is_listed token_numbers e ≡ true → IsListed (Broken e w)
unfolding IsListed
refuse e w h = h

token : (k : TokenKind) (n : ℕ) → IsListed (piece.Token k n)
unfolding IsListed
token k n = tt

blank : (n : ℕ) → IsListed (Blank n)
unfolding IsListed
blank n = tt

either : (b : Bool) (p q : Piece) → IsListed p → IsListed q → IsListed (if b then p else q)
either true p q h k = h
either false p q h k = k

word : (k : Option Keyword) (w : List ℕ) (n : ℕ) → IsListed (word_or k w n)
word (Some k) w n = token _ _
word None w n = either _ _ _ (refuse _ _ refl) (token _ _)

numeral : (k : Option TokenKind) (n : ℕ) → IsListed (number_or k n)
numeral None n = refuse _ _ refl
numeral (Some k) n = token _ _

mark : (m : Option MarkKind) (n : ℕ) (other : Piece) → IsListed other → IsListed (mark_or m n other)
mark (Some m) n other h = token _ _
mark None n other h = h

close : (n : Option ℕ) → IsListed (closed n)
close (Some n) = blank _
close None = refuse _ _ refl

based_number : (size : List ℕ) (before : ℕ) (rest : List ℕ) → IsListed (based_piece size before rest)
unfolding based_piece
based_number size before rest = numeral _ _

plain_number : (digits : List ℕ) → IsListed (plain_piece digits)
unfolding plain_piece
plain_number digits = numeral _ _

number : (text : List ℕ) → IsListed (number_piece text)
unfolding number_piece
number text = either _ _ _ (based_number _ _ _) (either _ _ _ (refuse _ _ refl) (plain_number _))

a_word : (text : List ℕ) → IsListed (word_piece text)
unfolding word_piece
a_word text = word _ _ _

escaped : (text : List ℕ) → IsListed (escaped_piece text)
unfolding escaped_piece
escaped text = either _ _ _ (refuse _ _ refl) (token _ _)

directive : (text : List ℕ) → IsListed (directive_piece text)
unfolding directive_piece
directive text = either _ _ _ (blank _) (refuse _ _ refl)

comment : (text : List ℕ) → IsListed (comment_piece text)
unfolding comment_piece
comment text = close _

attribute : (text : List ℕ) → IsListed (attribute_piece text)
unfolding attribute_piece
attribute text = close _

a_mark : (text : List ℕ) → IsListed (mark_piece text)
unfolding mark_piece
a_mark text =
    mark (mark_of (take 3 text)) (length (take 3 text)) _
    (mark (mark_of (take 2 text)) (length (take 2 text)) _ (mark (mark_of (take 1 text)) 1 (Broken 101 []) (refuse 101 [] refl)))

pieces : (text : List ℕ) → IsListed (piece_of text)
unfolding piece_of
pieces text =
    either (is_blank (front text)) _ _ (blank (run class.Blank text)) (either (is_word_start (front text)) _ _ (a_word text)
    (either (is_ascii_digit (front text)) _ _ (number text) (either (front text == 39) _ _ (based_number [] 0 text)
    (either (front text == 92) _ _ (escaped text) (either (front text == 96) _ _ (directive text)
    (either (starts_with ◌==◌ text (codes "//")) _ _ (blank (run InLine text))
    (either (starts_with ◌==◌ text (codes "/*")) _ _ (comment text)
    (either (starts_with ◌==◌ text (codes "(*") && not (is_event text)) _ _ (attribute text) (a_mark text)))))))))

join : (at : ℕ) (p : Place) (one : Piece) (rest : Lexed) → IsListed one → HasListed rest → HasListed (joined at p one rest)
unfolding IsListed HasListed
join at p (Blank n) rest h k = k
join at p (piece.Token kind n) (Ok ts) h k = tt
join at p (piece.Token kind n) (Err f) h k = k
join at p (Broken e w) rest h k = h

last : (ts : List Token) → HasListed (Ok ts)
unfolding HasListed
last ts = tt

tokens : (at : ℕ) (p : Place) (k : ℕ) (text : List ℕ) → HasListed (tokens_from at p k text)
unfolding tokens_from
tokens at p k [] = last _
tokens at p zero (b ∷ bs) =
    join at p (piece_of (b ∷ bs)) _ (pieces (b ∷ bs)) (tokens (at + 1) (next_place p b) (extent (piece_of (b ∷ bs)) - 1) bs)
tokens at p (suc k) (b ∷ bs) = tokens (at + 1) (next_place p b) k bs

refused_number : (f : Fault) → HasListed (Err f) → is_listed token_numbers f.number ≡ true
unfolding HasListed
refused_number f h = h

-- a text without tokens breaks one of their rules
pub token_stop : (text : List ℕ) (r : Result (List Token) Stop) → ((f : Fault) → r ≡ Err (Refused f) → tokens_of text ≡ Err f)
    → IfErr r (HasNumberIn token_numbers)
token_stop text (Ok ts) h = tt
token_stop text (Err Memory) h = tt
token_stop text (Err (Refused f)) h = refused_number f (subst (λ (r : Lexed). HasListed r) (h f refl) (tokens _ _ _ text))
