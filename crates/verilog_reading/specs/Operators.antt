-- The operators of expressions, and how tight they bind.
use Rattle.std.specs.Prelude.{ℕ, ◌==◌, Option, Some, None, if◌then◌else◌}
use Rattle.verilog_ast.specs.declared.UnaryOp.{UnaryOp}
use Rattle.verilog_ast.specs.declared.UnaryOp.TheVariants as u
use Rattle.verilog_ast.specs.declared.BinaryOp.{BinaryOp}
use Rattle.verilog_ast.specs.declared.BinaryOp.TheVariants as b
use Rattle.verilog_lex.specs.declared.marks.MarkKind.{MarkKind}
use Rattle.verilog_lex.specs.declared.marks.MarkKind.TheVariants.{Plus, Minus, Star, Slash, Percent, Bang, Tilde, Ampersand, Bar, Caret, TildeAmpersand, TildeBar, TildeCaret, CaretTilde, ShiftLeft, ShiftRight, Less, LessEqual, Greater, GreaterEqual, EqualEqual, BangEqual, AmpersandAmpersand, BarBar, LessLessLess}
use Rattle.verilog_lex.specs.declared.token.Token.{Token}
use Rattle.verilog_lex.specs.declared.token.TokenKind.{TokenKind}
use Rattle.verilog_lex.specs.declared.token.TokenKind.TheVariants.{Mark}
use Rattle.verilog_reading.specs.Lexemes.{Spot, spot_of, mark}

-- the operator that a mark is before its operand
abbrev pub unary_of : MarkKind → Option UnaryOp
unary_of Minus = Some u.Minus
unary_of Tilde = Some u.Not
unary_of Bang = Some u.LogicNot
unary_of Ampersand = Some u.And
unary_of Bar = Some u.Or
unary_of Caret = Some u.Xor
unary_of TildeAmpersand = Some u.Nand
unary_of TildeBar = Some u.Nor
unary_of TildeCaret = Some u.Xnor
unary_of CaretTilde = Some u.Xnor
unary_of m = None

-- the operator that a mark is between two operands
abbrev pub binary_of : MarkKind → Option BinaryOp
binary_of Star = Some b.Mul
binary_of Slash = Some b.Div
binary_of Percent = Some b.Mod
binary_of Plus = Some b.Add
binary_of Minus = Some b.Sub
binary_of ShiftLeft = Some b.Shl
binary_of LessLessLess = Some b.Shl
binary_of ShiftRight = Some b.Shr
binary_of Less = Some b.Lt
binary_of LessEqual = Some b.Le
binary_of Greater = Some b.Gt
binary_of GreaterEqual = Some b.Ge
binary_of EqualEqual = Some b.Eq
binary_of BangEqual = Some b.Ne
binary_of Ampersand = Some b.And
binary_of Caret = Some b.Xor
binary_of TildeCaret = Some b.Xnor
binary_of CaretTilde = Some b.Xnor
binary_of Bar = Some b.Or
binary_of AmpersandAmpersand = Some b.LogicAnd
binary_of BarBar = Some b.LogicOr
binary_of m = None

-- how tight an operator binds, 0 for the tightest
abbrev pub level_of : BinaryOp → ℕ
level_of b.Mul = 0
level_of b.Div = 0
level_of b.Mod = 0
level_of b.Add = 1
level_of b.Sub = 1
level_of b.Shl = 2
level_of b.Shr = 2
level_of b.Lt = 3
level_of b.Le = 3
level_of b.Gt = 3
level_of b.Ge = 3
level_of b.Eq = 4
level_of b.Ne = 4
level_of b.And = 5
level_of b.Xor = 6
level_of b.Xnor = 6
level_of b.Or = 7
level_of b.LogicAnd = 8
level_of b.LogicOr = 9

-- how many levels there are
abbrev pub levels : ℕ
levels = 10

abbrev pub at_level : ℕ → Option BinaryOp → Option BinaryOp
at_level l None = None
at_level l (Some op) = if level_of op == l then Some op else None

-- the operator of the level that a mark is
abbrev pub joins : ℕ → MarkKind → Option BinaryOp
joins l m = at_level l (binary_of m)

-- an operator before its operand
pub record Prefix : Type 0 where
  pub op : UnaryOp
  pub sign : MarkKind
  pub spot : Spot

abbrev pub prefix : Prefix → Token
prefix p = mark p.sign p.spot

abbrev pub as_prefix : Option UnaryOp → MarkKind → Spot → Option Prefix
as_prefix None m s = None
as_prefix (Some op) m s = Some (record { op = op; sign = m; spot = s })

abbrev pub prefix_of : TokenKind → Spot → Option Prefix
prefix_of (Mark m) s = as_prefix (unary_of m) m s
prefix_of k s = None

abbrev pub prefix_in : Token → Option Prefix
prefix_in t = prefix_of t.kind (spot_of t)

-- an operator between its operands
pub record Joint : Type 0 where
  pub op : BinaryOp
  pub sign : MarkKind
  pub spot : Spot

abbrev pub joint : Joint → Token
joint j = mark j.sign j.spot

abbrev pub as_joint : Option BinaryOp → MarkKind → Spot → Option Joint
as_joint None m s = None
as_joint (Some op) m s = Some (record { op = op; sign = m; spot = s })

abbrev pub joint_of : ℕ → TokenKind → Spot → Option Joint
joint_of l (Mark m) s = as_joint (joins l m) m s
joint_of l k s = None

abbrev pub joint_in : ℕ → Token → Option Joint
joint_in l t = joint_of l t.kind (spot_of t)
