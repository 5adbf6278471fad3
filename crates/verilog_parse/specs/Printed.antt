-- A printed text: tokens with a blank behind each, and the ends of lines.
use Rattle.std.specs.Prelude.{ℕ, false, ◌≡◌, zero, suc, ◌+◌, ◌==◌, List, [], ◌∷◌, ◌++◌, codes, if◌then◌else◌}
use Rattle.std.specs.Fmt.{decimal, radix_digits}
use Rattle.std.specs.Int.{bit_at}
use Rattle.cdc_base.specs.Words.{is_simple}
use Rattle.cdc_base.specs.declared.size.NumberSize.{NumberSize}
use Rattle.cdc_base.specs.declared.size.NumberSize.TheVariants.{Plain, Unsized, Sized}
use Rattle.cdc_base.specs.declared.words.Keyword.{Keyword}
use Rattle.cdc_base.specs.declared.words.Keyword.TheVariants as k
use Rattle.verilog_lex.specs.declared.marks.MarkKind.{MarkKind}
use Rattle.verilog_lex.specs.declared.marks.MarkKind.TheVariants as m
use Rattle.verilog_lex.specs.declared.token.TokenKind.{TokenKind}
use Rattle.verilog_lex.specs.declared.token.TokenKind.TheVariants.{Word, Ident, Number, Mask, Mark, End}

pub data Printed : Type 0 where
  token : TokenKind → Printed
  line_end : Printed

-- how a word is spelled
abbrev pub spelled_word : Keyword → List ℕ
spelled_word k.Always = codes "always"
spelled_word k.And = codes "and"
spelled_word k.Assign = codes "assign"
spelled_word k.Begin = codes "begin"
spelled_word k.Buf = codes "buf"
spelled_word k.Case = codes "case"
spelled_word k.CaseZ = codes "casez"
spelled_word k.Default = codes "default"
spelled_word k.Else = codes "else"
spelled_word k.End = codes "end"
spelled_word k.EndCase = codes "endcase"
spelled_word k.EndModule = codes "endmodule"
spelled_word k.If = codes "if"
spelled_word k.Initial = codes "initial"
spelled_word k.Input = codes "input"
spelled_word k.LocalParam = codes "localparam"
spelled_word k.Module = codes "module"
spelled_word k.Nand = codes "nand"
spelled_word k.NegEdge = codes "negedge"
spelled_word k.Nor = codes "nor"
spelled_word k.Not = codes "not"
spelled_word k.Or = codes "or"
spelled_word k.Output = codes "output"
spelled_word k.Parameter = codes "parameter"
spelled_word k.PosEdge = codes "posedge"
spelled_word k.Reg = codes "reg"
spelled_word k.Wire = codes "wire"
spelled_word k.Xnor = codes "xnor"
spelled_word k.Xor = codes "xor"

-- the signs of a mark
abbrev pub spelled_mark : MarkKind → List ℕ
spelled_mark m.ParenOpen = codes "("
spelled_mark m.ParenClose = codes ")"
spelled_mark m.BracketOpen = codes "["
spelled_mark m.BracketClose = codes "]"
spelled_mark m.BraceOpen = codes "{"
spelled_mark m.BraceClose = codes "}"
spelled_mark m.Comma = codes ","
spelled_mark m.Semicolon = codes ";"
spelled_mark m.Colon = codes ":"
spelled_mark m.Dot = codes "."
spelled_mark m.Hash = codes "#"
spelled_mark m.At = codes "@"
spelled_mark m.Question = codes "?"
spelled_mark m.Equals = codes "="
spelled_mark m.LessEqual = codes "<="
spelled_mark m.Plus = codes "+"
spelled_mark m.Minus = codes "-"
spelled_mark m.Star = codes "*"
spelled_mark m.Slash = codes "/"
spelled_mark m.Percent = codes "%"
spelled_mark m.Bang = codes "!"
spelled_mark m.Tilde = codes "~"
spelled_mark m.Ampersand = codes "&"
spelled_mark m.Bar = codes "|"
spelled_mark m.Caret = codes "^"
spelled_mark m.TildeAmpersand = codes "~&"
spelled_mark m.TildeBar = codes "~|"
spelled_mark m.TildeCaret = codes "~^"
spelled_mark m.CaretTilde = codes "^~"
spelled_mark m.ShiftLeft = codes "<<"
spelled_mark m.ShiftRight = codes ">>"
spelled_mark m.Less = codes "<"
spelled_mark m.Greater = codes ">"
spelled_mark m.GreaterEqual = codes ">="
spelled_mark m.EqualEqual = codes "=="
spelled_mark m.BangEqual = codes "!="
spelled_mark m.AmpersandAmpersand = codes "&&"
spelled_mark m.BarBar = codes "||"
spelled_mark m.LessLessLess = codes "<<<"
spelled_mark m.AmpersandAmpersandAmpersand = codes "&&&"
spelled_mark m.PlusColon = codes "+:"
spelled_mark m.MinusColon = codes "-:"

-- a name as it is where it is an identifier and no word, and escaped else
abbrev pub spelled_name : List ℕ → List ℕ
spelled_name n = if is_simple n then n else 92 ∷ n

-- a plain number in decimal digits, any other in hexadecimal digits, with its width where it has a size
abbrev pub spelled_number : ℕ → ℕ → NumberSize → List ℕ
spelled_number value width Plain = decimal value
spelled_number value width Unsized = codes "'h" ++ radix_digits 16 false value
spelled_number value width Sized = decimal width ++ (codes "'h" ++ radix_digits 16 false value)

-- the digit of a bit of a mask
abbrev pub mask_digit : ℕ → ℕ → ℕ
mask_digit value opened = if opened == 1 then 63 else 48 + value

-- the lowest bits of a mask, as many as said
abbrev pub mask_digits : ℕ → ℕ → ℕ → List ℕ
mask_digits zero value opened = []
mask_digits (suc n) value opened = mask_digit (bit_at value n) (bit_at opened n) ∷ mask_digits n value opened

-- a mask in binary digits; an open digit before them is one of a mask in any case, and is cut off
abbrev pub spelled_mask : ℕ → ℕ → ℕ → List ℕ
spelled_mask value opened width = decimal width ++ (codes "'b?" ++ mask_digits width value opened)

-- a token
abbrev pub spelled : TokenKind → List ℕ
spelled (Word w) = spelled_word w
spelled (Ident n) = spelled_name n
spelled (Number value width size) = spelled_number value width size
spelled (Mask value opened width) = spelled_mask value opened width
spelled (Mark s) = spelled_mark s
spelled End = []

abbrev pub bytes_of_one : Printed → List ℕ
bytes_of_one (token kind) = spelled kind ++ codes " "
bytes_of_one line_end = codes "\n"

-- the text of what is printed
abbrev pub bytes_of : List Printed → List ℕ
bytes_of [] = []
bytes_of (p ∷ ps) = bytes_of_one p ++ bytes_of ps

-- the text grows by what is printed
pub record Adds (old : List ℕ) (printed : List Printed) (new : List ℕ) : Type 0 where
  pub added : new ≡ old ++ bytes_of printed

-- single tokens, and the end of a line
abbrev pub word : Keyword → List Printed
word w = token (Word w) ∷ []

abbrev pub mark : MarkKind → List Printed
mark s = token (Mark s) ∷ []

abbrev pub ident : List ℕ → List Printed
ident n = token (Ident n) ∷ []

abbrev pub numeral : ℕ → ℕ → NumberSize → List Printed
numeral value width size = token (Number value width size) ∷ []

abbrev pub mask : ℕ → ℕ → ℕ → List Printed
mask value opened width = token (Mask value opened width) ∷ []

abbrev pub new_line : List Printed
new_line = line_end ∷ []

-- the separator before an entry, but for the first
abbrev pub before_entry : ℕ → List Printed → List Printed
before_entry zero sep = []
before_entry (suc n) sep = sep

-- each entry with the separator before it
abbrev pub behind : List Printed → List (List Printed) → List Printed
behind sep [] = []
behind sep (a ∷ bs) = sep ++ (a ++ behind sep bs)

-- entries with a separator between them
abbrev pub separated : List Printed → List (List Printed) → List Printed
separated sep [] = []
separated sep (a ∷ bs) = a ++ behind sep bs

abbrev pub with_commas : List (List Printed) → List Printed
with_commas = separated (mark m.Comma)

-- one after the other
abbrev pub in_turn : List (List Printed) → List Printed
in_turn [] = []
in_turn (a ∷ bs) = a ++ in_turn bs
