-- The text of a printed token, as the first piece of what it begins.
use Rattle.std.proofs.Common.{◌≡◌, ◌≢◌, ℕ, Bool, true, false, suc, ◌+◌, ◌==◌, List, [], ◌∷◌, ◌++◌, arith, cond, refl, sym, ap, subst, ◌∙◌, rules, length, take, drop}
use Rattle.std.specs.Prelude.{Option, Some, None, is_none, not, ◌&&◌, ◌||◌, if◌then◌else◌}
use Rattle.std.specs.List.{list_all}
use Rattle.cdc_base.specs.declared.bytes.Class.{Class}
use Rattle.cdc_base.specs.declared.bytes.Class.TheVariants as class
use Rattle.cdc_base.specs.declared.words.Keyword.{Keyword}
use Rattle.cdc_base.specs.declared.words.Keyword.TheVariants as k
use Rattle.cdc_base.specs.Bytes.{front, in_class, is_blank, is_word_start}
use Rattle.cdc_base.specs.Words.{keyword_of, is_left_out, is_identifier, is_simple}
use Rattle.verilog_lex.specs.declared.marks.MarkKind.{MarkKind}
use Rattle.verilog_lex.specs.declared.marks.MarkKind.TheVariants as m
use Rattle.verilog_lex.specs.declared.token.Piece.TheVariants.{Token, Broken}
use Rattle.verilog_lex.specs.declared.token.TokenKind.{TokenKind}
use Rattle.verilog_lex.specs.declared.token.TokenKind.TheVariants.{Word, Ident, Mark}
use Rattle.verilog_lex.specs.Laws.{AllOf}
use Rattle.verilog_lex.specs.Marks.{mark_of}
use Rattle.verilog_lex.specs.Pieces.{piece_of, mark_piece, word_or, escaped_piece, run}
use Rattle.verilog_lex.proofs.Classes.{run_length, word_run}
use Rattle.verilog_parse.specs.Printed.{spelled_word, spelled_mark, spelled_name}

-- the text begins a piece, and its first byte is neither white space nor `'`
abbrev pub opens : ℕ → Bool
opens b = not (is_blank b) && not (b == 39)

-- what stands behind a printed token
abbrev pub with_blank : List ℕ → List ℕ → List ℕ
with_blank text rest = text ++ (32 ∷ rest)

-- no `'` follows, white space aside
abbrev pub NoQuote : List ℕ → Type 0
NoQuote text = (front (drop (run class.Blank text) text) == 39) ≡ false

-- a run of white space goes on with a blank
pub run_more : (b : ℕ) (bs : List ℕ) → is_blank b ≡ true → run class.Blank (b ∷ bs) ≡ suc (run class.Blank bs)
run_more b bs h = ap (λ t. cond t (1 + run class.Blank bs) 0) h ∙ (let e : 1 + run class.Blank bs ≡ suc (run class.Blank bs) = omega arith in e)

pub no_quote_behind : (b : ℕ) (bs : List ℕ) → is_blank b ≡ true → NoQuote bs → NoQuote (b ∷ bs)
no_quote_behind b bs e h = subst (λ n. (front (drop n (b ∷ bs)) == 39) ≡ false) (sym (run_more b bs e)) h

abbrev pub Is : TokenKind → List ℕ → List ℕ → Type 0
Is kind text rest = piece_of (with_blank text rest) ≡ Token kind (length text)

pub mark_text : (s : MarkKind) (rest : List ℕ) → Is (Mark s) (spelled_mark s) rest × (opens (front (with_blank (spelled_mark s) rest)) ≡ true)
unfolding piece_of mark_piece mark_of
mark_text m.ParenOpen rest = (refl, refl)
mark_text m.ParenClose rest = (refl, refl)
mark_text m.BracketOpen rest = (refl, refl)
mark_text m.BracketClose rest = (refl, refl)
mark_text m.BraceOpen rest = (refl, refl)
mark_text m.BraceClose rest = (refl, refl)
mark_text m.Comma rest = (refl, refl)
mark_text m.Semicolon rest = (refl, refl)
mark_text m.Colon rest = (refl, refl)
mark_text m.Dot rest = (refl, refl)
mark_text m.Hash rest = (refl, refl)
mark_text m.At rest = (refl, refl)
mark_text m.Question rest = (refl, refl)
mark_text m.Equals rest = (refl, refl)
mark_text m.LessEqual rest = (refl, refl)
mark_text m.Plus rest = (refl, refl)
mark_text m.Minus rest = (refl, refl)
mark_text m.Star rest = (refl, refl)
mark_text m.Slash rest = (refl, refl)
mark_text m.Percent rest = (refl, refl)
mark_text m.Bang rest = (refl, refl)
mark_text m.Tilde rest = (refl, refl)
mark_text m.Ampersand rest = (refl, refl)
mark_text m.Bar rest = (refl, refl)
mark_text m.Caret rest = (refl, refl)
mark_text m.TildeAmpersand rest = (refl, refl)
mark_text m.TildeBar rest = (refl, refl)
mark_text m.TildeCaret rest = (refl, refl)
mark_text m.CaretTilde rest = (refl, refl)
mark_text m.ShiftLeft rest = (refl, refl)
mark_text m.ShiftRight rest = (refl, refl)
mark_text m.Less rest = (refl, refl)
mark_text m.Greater rest = (refl, refl)
mark_text m.GreaterEqual rest = (refl, refl)
mark_text m.EqualEqual rest = (refl, refl)
mark_text m.BangEqual rest = (refl, refl)
mark_text m.AmpersandAmpersand rest = (refl, refl)
mark_text m.BarBar rest = (refl, refl)
mark_text m.LessLessLess rest = (refl, refl)
mark_text m.AmpersandAmpersandAmpersand rest = (refl, refl)
mark_text m.PlusColon rest = (refl, refl)
mark_text m.MinusColon rest = (refl, refl)

keyword : (w : Keyword) → (is_identifier (spelled_word w) ≡ true) × (keyword_of (spelled_word w) ≡ Some w)
unfolding keyword_of
keyword k.Always = (refl, refl)
keyword k.And = (refl, refl)
keyword k.Assign = (refl, refl)
keyword k.Begin = (refl, refl)
keyword k.Buf = (refl, refl)
keyword k.Case = (refl, refl)
keyword k.CaseZ = (refl, refl)
keyword k.Default = (refl, refl)
keyword k.Else = (refl, refl)
keyword k.End = (refl, refl)
keyword k.EndCase = (refl, refl)
keyword k.EndModule = (refl, refl)
keyword k.If = (refl, refl)
keyword k.Initial = (refl, refl)
keyword k.Input = (refl, refl)
keyword k.LocalParam = (refl, refl)
keyword k.Module = (refl, refl)
keyword k.Nand = (refl, refl)
keyword k.NegEdge = (refl, refl)
keyword k.Nor = (refl, refl)
keyword k.Not = (refl, refl)
keyword k.Or = (refl, refl)
keyword k.Output = (refl, refl)
keyword k.Parameter = (refl, refl)
keyword k.PosEdge = (refl, refl)
keyword k.Reg = (refl, refl)
keyword k.Wire = (refl, refl)
keyword k.Xnor = (refl, refl)
keyword k.Xor = (refl, refl)

pub if_true : {A : Type 0} (b : Bool) (x y : A) → b ≡ true → (if b then x else y) ≡ x
if_true b x y h = ap (λ b. if b then x else y) h

pub if_false : {A : Type 0} (b : Bool) (x y : A) → b ≡ false → (if b then x else y) ≡ y
if_false b x y h = ap (λ b. if b then x else y) h

pub both_true : (x y : Bool) → (x && y) ≡ true → (x ≡ true) × (y ≡ true)
both_true true y h = (refl, h)
both_true false y h = absurd (search (rules, h))

all_of : (c : Class) (bs : List ℕ) → list_all (in_class c) bs ≡ true → AllOf c bs
all_of c [] h = tt
all_of c (b ∷ bs) h = let i = both_true (in_class c b) (list_all (in_class c) bs) h in (i.0, all_of c bs i.1)

start_opens : (b : ℕ) → is_word_start b ≡ true → opens b ≡ true
start_opens b h = grind (arith, h)

-- an identifier is a word, whole
identifier_text : (n rest : List ℕ) → is_identifier n ≡ true → (piece_of (with_blank n rest) ≡ word_or (keyword_of n) n (length n)) × (opens (front (with_blank n rest)) ≡ true)
identifier_text [] rest h = absurd (search (rules, h))
identifier_text (b ∷ bs) rest h = let i = both_true (is_word_start b) (list_all (in_class class.Word) (b ∷ bs)) h in
    (word_run b bs (32 ∷ rest) i.0 (all_of class.Word (b ∷ bs) i.1) refl, start_opens b i.0)

pub word_text : (w : Keyword) (rest : List ℕ) → Is (Word w) (spelled_word w) rest × (opens (front (with_blank (spelled_word w) rest)) ≡ true)
word_text w rest = let i = identifier_text (spelled_word w) rest (keyword w).0 in
    (i.0 ∙ ap (λ z. word_or z (spelled_word w) (length (spelled_word w))) (keyword w).1, i.1)

no_word : (o : Option Keyword) (n : List ℕ) → is_none o ≡ true → not (is_left_out n) ≡ true → word_or o n (length n) ≡ Token (Ident n) (length n)
no_word None n h g = ap (λ t. if t then Broken 105 n else Token (Ident n) (length n)) (out (is_left_out n) g)
  where
    out : (t : Bool) → not t ≡ true → t ≡ false
    out true e = absurd (search (rules, e))
    out false e = refl
no_word (Some w) n h g = absurd (search (rules, h))

simple_text : (n rest : List ℕ) → is_simple n ≡ true → Is (Ident n) n rest × (opens (front (with_blank n rest)) ≡ true)
simple_text n rest h =
    let i = both_true (is_identifier n && is_none (keyword_of n)) (not (is_left_out n)) h in
    let j = both_true (is_identifier n) (is_none (keyword_of n)) i.0 in
    let t = identifier_text n rest j.0 in
    (t.0 ∙ no_word (keyword_of n) n j.1 i.1, t.1)

pub take_front : (xs ys : List ℕ) → take (length xs) (xs ++ ys) ≡ xs
take_front [] ys = refl
take_front (x ∷ xs) ys = ap (λ t. x ∷ t) (take_front xs ys)

pub drop_front : (xs ys : List ℕ) → drop (length xs) (xs ++ ys) ≡ ys
drop_front [] ys = refl
drop_front (x ∷ xs) ys = drop_front xs ys

-- an escaped name ends at the blank
escaped_text : (b : ℕ) (bs rest : List ℕ) → AllOf class.Visible (b ∷ bs) → Is (Ident (b ∷ bs)) (92 ∷ (b ∷ bs)) rest
unfolding piece_of escaped_piece
escaped_text b bs rest a =
    ap (λ n. if n == 0 || not (is_blank (front (drop n (with_blank (b ∷ bs) rest)))) then Broken 101 [] else Token (Ident (take n (with_blank (b ∷ bs) rest))) (n + 1))
    (run_length class.Visible (b ∷ bs) (32 ∷ rest) a refl)
    ∙ ap (λ t. if t || not (is_blank (front (drop (length (b ∷ bs)) (with_blank (b ∷ bs) rest)))) then Broken 101 [] else Token (Ident (take (length (b ∷ bs)) (with_blank (b ∷ bs) rest))) (length (b ∷ bs) + 1))
    (let e : (length (b ∷ bs) == 0) ≡ false = grind arith in e)
    ∙ ap (λ z. if not (is_blank (front z)) then Broken 101 [] else Token (Ident (take (length (b ∷ bs)) (with_blank (b ∷ bs) rest))) (length (b ∷ bs) + 1)) (drop_front (b ∷ bs) (32 ∷ rest))
    ∙ ap (λ z. Token (Ident z) (length (b ∷ bs) + 1)) (take_front (b ∷ bs) (32 ∷ rest))
    ∙ ap (Token (Ident (b ∷ bs))) (let e : length (b ∷ bs) + 1 ≡ length (92 ∷ (b ∷ bs)) = omega arith in e)

pub name_text : (n rest : List ℕ) → n ≢ [] → AllOf class.Visible n → Is (Ident n) (spelled_name n) rest × (opens (front (with_blank (spelled_name n) rest)) ≡ true)
name_text [] rest h a = absurd (h refl)
name_text (b ∷ bs) rest h a = by (is_simple (b ∷ bs)) (λ e. simple_text (b ∷ bs) rest e)
  where
    by : (t : Bool) → (t ≡ true → Is (Ident (b ∷ bs)) (b ∷ bs) rest × (opens (front (with_blank (b ∷ bs) rest)) ≡ true))
        → Is (Ident (b ∷ bs)) (if t then b ∷ bs else 92 ∷ (b ∷ bs)) rest × (opens (front (with_blank (if t then b ∷ bs else 92 ∷ (b ∷ bs)) rest)) ≡ true)
    by true f = f refl
    by false f = (escaped_text b bs rest a, refl)
