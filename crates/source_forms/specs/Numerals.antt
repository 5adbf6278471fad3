-- Tokens whose numbers and masks fit in their bits.
use Rattle.std.specs.Prelude.{List, All, ⊤}
use Rattle.verilog_lex.specs.declared.token.Token.{Token}
use Rattle.verilog_lex.specs.declared.token.TokenKind.{TokenKind}
use Rattle.verilog_lex.specs.declared.token.TokenKind.TheVariants.{Word, Ident, Number, Mask, Mark, End}
use Rattle.verilog_reading.specs.ExprTree.{number}
use Rattle.verilog_reading.specs.StmtTree.{by_mask}
use Rattle.flat_unfolding.specs.Formed.{IsFormed, IsLabelFormed}

-- a number that is formed as an expression: 1 to 64 bits hold it, and a plain one is a whole number of 32; or a mask that is formed as a label
abbrev pub IsNumeral : TokenKind → Type 0
IsNumeral (Word w) = ⊤
IsNumeral (Ident n) = ⊤
IsNumeral (Number value width size) = IsFormed (number value width size)
IsNumeral (Mask value opened width) = IsLabelFormed (by_mask value opened width)
IsNumeral (Mark s) = ⊤
IsNumeral End = ⊤

-- each number among the tokens is
abbrev pub AreNumerals : List Token → Type 0
AreNumerals ts = All (λ (t : Token). IsNumeral t.kind) ts
