-- What stands next among tokens: marks, words, names and numbers, each with its spot in the text.
use Rattle.std.specs.Prelude.{ℕ, List, Option, Some, None, if◌then◌else◌}
use Rattle.cdc_base.specs.declared.fault.Place.{Place}
use Rattle.cdc_base.specs.declared.size.NumberSize.{NumberSize}
use Rattle.cdc_base.specs.declared.words.Keyword.{Keyword}
use Rattle.cdc_base.specs.contracts.words.KeywordPartialEq.TheImpl as words
use Rattle.verilog_lex.specs.declared.marks.MarkKind.{MarkKind}
use Rattle.verilog_lex.specs.contracts.marks.MarkKindPartialEq.TheImpl as marks
use Rattle.verilog_lex.specs.declared.token.Token.{Token}
use Rattle.verilog_lex.specs.declared.token.TokenKind.{TokenKind}
use Rattle.verilog_lex.specs.declared.token.TokenKind.TheVariants.{Word, Ident, Number, Mask, Mark, End}

-- where a token stands
pub record Spot : Type 0 where
  pub place : Place
  pub start : ℕ
  pub stop : ℕ

abbrev pub spot_of : Token → Spot
spot_of t = record { place = t.place; start = t.start; stop = t.«end» }

-- the token of that kind at that spot
abbrev pub token_at : TokenKind → Spot → Token
token_at k s = record { kind = k; place = s.place; start = s.start; «end» = s.stop }

abbrev pub mark : MarkKind → Spot → Token
mark m s = token_at (Mark m) s

abbrev pub word : Keyword → Spot → Token
word w s = token_at (Word w) s

-- an identifier
pub record Named : Type 0 where
  pub name : List ℕ
  pub spot : Spot

abbrev pub ident : Named → Token
ident n = token_at (Ident n.name) n.spot

-- a number
pub record Numeral : Type 0 where
  pub value : ℕ
  pub width : ℕ
  pub size : NumberSize
  pub spot : Spot

abbrev pub numeral : Numeral → Token
numeral n = token_at (Number n.value n.width n.size) n.spot

-- a mask
pub record Masked : Type 0 where
  pub value : ℕ
  pub opened : ℕ
  pub width : ℕ
  pub spot : Spot

abbrev pub masked : Masked → Token
masked n = token_at (Mask n.value n.opened n.width) n.spot

-- `dval = number | id`
pub data Dval : Type 0 where
  by_number : Numeral → Dval
  by_name : Named → Dval

abbrev pub dval : Dval → Token
dval (by_number n) = numeral n
dval (by_name n) = ident n

-- the closing end
abbrev pub closing : Spot → Token
closing s = token_at End s

abbrev pub mark_of : MarkKind → TokenKind → Spot → Option Spot
mark_of m (Mark n) s = if marks.ghosts.eq m n then Some s else None
mark_of m k s = None

abbrev pub mark_in : MarkKind → Token → Option Spot
mark_in m t = mark_of m t.kind (spot_of t)

abbrev pub word_of : Keyword → TokenKind → Spot → Option Spot
word_of w (Word v) s = if words.ghosts.eq w v then Some s else None
word_of w k s = None

abbrev pub word_in : Keyword → Token → Option Spot
word_in w t = word_of w t.kind (spot_of t)

abbrev pub ident_of : TokenKind → Spot → Option Named
ident_of (Ident n) s = Some (record { name = n; spot = s })
ident_of k s = None

abbrev pub ident_in : Token → Option Named
ident_in t = ident_of t.kind (spot_of t)

abbrev pub numeral_of : TokenKind → Spot → Option Numeral
numeral_of (Number v w z) s = Some (record { value = v; width = w; size = z; spot = s })
numeral_of k s = None

abbrev pub numeral_in : Token → Option Numeral
numeral_in t = numeral_of t.kind (spot_of t)

abbrev pub mask_of : TokenKind → Spot → Option Masked
mask_of (Mask v o w) s = Some (record { value = v; opened = o; width = w; spot = s })
mask_of k s = None

abbrev pub mask_in : Token → Option Masked
mask_in t = mask_of t.kind (spot_of t)

abbrev pub dval_of : TokenKind → Spot → Option Dval
dval_of (Number v w z) s = Some (by_number (record { value = v; width = w; size = z; spot = s }))
dval_of (Ident n) s = Some (by_name (record { name = n; spot = s }))
dval_of k s = None

abbrev pub dval_in : Token → Option Dval
dval_in t = dval_of t.kind (spot_of t)

abbrev pub end_of : TokenKind → Spot → Option Spot
end_of End s = Some s
end_of k s = None

abbrev pub end_in : Token → Option Spot
end_in t = end_of t.kind (spot_of t)
