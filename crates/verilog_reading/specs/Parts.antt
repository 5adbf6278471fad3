-- What stands between the two expressions of a part.
use Rattle.std.specs.Prelude.{Option, Some, None}
use Rattle.verilog_ast.specs.declared.PartKind.{PartKind}
use Rattle.verilog_ast.specs.declared.PartKind.TheVariants.{Range, Up, Down}
use Rattle.verilog_lex.specs.declared.marks.MarkKind.{MarkKind}
use Rattle.verilog_lex.specs.declared.marks.MarkKind.TheVariants.{Colon, PlusColon, MinusColon}
use Rattle.verilog_lex.specs.declared.token.Token.{Token}
use Rattle.verilog_lex.specs.declared.token.TokenKind.{TokenKind}
use Rattle.verilog_lex.specs.declared.token.TokenKind.TheVariants.{Mark}
use Rattle.verilog_reading.specs.Lexemes.{Spot, spot_of, mark}

-- `:`, `+:` or `-:`
abbrev pub part_mark : PartKind → MarkKind
part_mark Range = Colon
part_mark Up = PlusColon
part_mark Down = MinusColon

-- the kind of part that a mark makes
abbrev pub part_kind_of : MarkKind → Option PartKind
part_kind_of Colon = Some Range
part_kind_of PlusColon = Some Up
part_kind_of MinusColon = Some Down
part_kind_of m = None

pub record Divider : Type 0 where
  pub kind : PartKind
  pub spot : Spot

abbrev pub divider : Divider → Token
divider d = mark (part_mark d.kind) d.spot

abbrev pub as_divider : Option PartKind → Spot → Option Divider
as_divider None s = None
as_divider (Some kind) s = Some (record { kind = kind; spot = s })

abbrev pub divider_of : TokenKind → Spot → Option Divider
divider_of (Mark m) s = as_divider (part_kind_of m) s
divider_of k s = None

abbrev pub divider_in : Token → Option Divider
divider_in t = divider_of t.kind (spot_of t)
