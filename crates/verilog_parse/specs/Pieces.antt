-- What is printed of expressions, targets, statements, items, modules and sources.
use Rattle.std.specs.Prelude.{ℕ, Bool, true, false, List, [], ◌∷◌, ◌++◌, map, Option, Some, None, if◌then◌else◌}
use Rattle.cdc_base.specs.declared.words.Keyword.{Keyword}
use Rattle.cdc_base.specs.declared.words.Keyword.TheVariants as k
use Rattle.verilog_lex.specs.declared.marks.MarkKind.{MarkKind}
use Rattle.verilog_lex.specs.declared.marks.MarkKind.TheVariants as m
use Rattle.verilog_ast.specs.declared.UnaryOp.{UnaryOp}
use Rattle.verilog_ast.specs.declared.UnaryOp.TheVariants as u
use Rattle.verilog_ast.specs.declared.BinaryOp.{BinaryOp}
use Rattle.verilog_ast.specs.declared.BinaryOp.TheVariants as b
use Rattle.verilog_ast.specs.declared.PartKind.{PartKind}
use Rattle.verilog_ast.specs.declared.PartKind.TheVariants.{Range}
use Rattle.verilog_ast.specs.declared.Delay.{Delay}
use Rattle.verilog_ast.specs.declared.Delay.TheVariants as delay
use Rattle.cdc_base.specs.declared.size.NumberSize.TheVariants.{Sized}
use Rattle.verilog_ast.specs.declared.DeclKind.{DeclKind}
use Rattle.verilog_ast.specs.declared.DeclKind.TheVariants.{Input, Output, OutputReg, Wire, Reg}
use Rattle.verilog_ast.specs.declared.GateKind.{GateKind}
use Rattle.verilog_ast.specs.declared.GateKind.TheVariants as g
use Rattle.verilog_ast.specs.declared.Event.{Event}
use Rattle.verilog_ast.specs.declared.Event.TheVariants as event
use Rattle.verilog_ast.specs.declared.Edge.{Edge}
use Rattle.verilog_ast.specs.declared.EdgeKind.{EdgeKind}
use Rattle.verilog_ast.specs.declared.EdgeKind.TheVariants.{Pos, Neg, Level}
use Rattle.verilog_reading.specs.ExprTree.{ExprTree, number, name, index, part, unary, binary, choice, join, repeat, paren, ExprTrees, no_trees, and_trees, TargetTree, whole, index_of, part_of, join_of, TargetTrees, no_parts, and_parts}
use Rattle.verilog_reading.specs.StmtTree.{StmtTree, null, set, when, either, switch, switch_else, block, StmtTrees, no_rows, and_rows, Subject, LabelTree, by_value, by_mask, ArmTrees, no_arms, and_arms}
use Rattle.verilog_reading.specs.StmtReading.{assign_mark, case_word}
use Rattle.verilog_reading.specs.Parts.{part_mark}
use Rattle.verilog_reading.specs.ItemReading.{param_word}
use Rattle.verilog_reading.specs.SourceTree.{Bounds, ParamTree, DeclTree, PortTree, ConnTree, ConnsTree, ordered, named, BodyTree, param, decl, assign, gate, instance, always, initial, ItemTree, ModuleTree}
use Rattle.verilog_parse.specs.Printed.{Printed, word, mark, ident, numeral, mask, new_line, separated, with_commas, in_turn}

-- the mark of an operator
abbrev pub unary_mark : UnaryOp → MarkKind
unary_mark u.Minus = m.Minus
unary_mark u.Not = m.Tilde
unary_mark u.LogicNot = m.Bang
unary_mark u.And = m.Ampersand
unary_mark u.Or = m.Bar
unary_mark u.Xor = m.Caret
unary_mark u.Nand = m.TildeAmpersand
unary_mark u.Nor = m.TildeBar
unary_mark u.Xnor = m.TildeCaret

abbrev pub binary_mark : BinaryOp → MarkKind
binary_mark b.Mul = m.Star
binary_mark b.Div = m.Slash
binary_mark b.Mod = m.Percent
binary_mark b.Add = m.Plus
binary_mark b.Sub = m.Minus
binary_mark b.Shl = m.ShiftLeft
binary_mark b.Shr = m.ShiftRight
binary_mark b.Lt = m.Less
binary_mark b.Le = m.LessEqual
binary_mark b.Gt = m.Greater
binary_mark b.Ge = m.GreaterEqual
binary_mark b.Eq = m.EqualEqual
binary_mark b.Ne = m.BangEqual
binary_mark b.And = m.Ampersand
binary_mark b.Xor = m.Caret
binary_mark b.Xnor = m.TildeCaret
binary_mark b.Or = m.Bar
binary_mark b.LogicAnd = m.AmpersandAmpersand
binary_mark b.LogicOr = m.BarBar

-- what brackets, braces and parentheses hold
abbrev pub in_brackets : List Printed → List Printed
in_brackets inner = mark m.BracketOpen ++ (inner ++ mark m.BracketClose)

abbrev pub in_braces : List Printed → List Printed
in_braces inner = mark m.BraceOpen ++ (inner ++ mark m.BraceClose)

abbrev pub in_parens : List Printed → List Printed
in_parens inner = mark m.ParenOpen ++ (inner ++ mark m.ParenClose)

-- a part without its brackets
abbrev pub from_to : PartKind → List Printed → List Printed → List Printed
from_to kind left right = left ++ (mark (part_mark kind) ++ right)

-- an expression
abbrev mutual
  pub expr_pieces : ExprTree → List Printed
  expr_pieces (number value width size) = numeral value width size
  expr_pieces (name n) = ident n
  expr_pieces (index n i) = ident n ++ in_brackets (expr_pieces i)
  expr_pieces (part n kind left right) = ident n ++ in_brackets (from_to kind (expr_pieces left) (expr_pieces right))
  expr_pieces (unary op a) = mark (unary_mark op) ++ expr_pieces a
  expr_pieces (binary op a c) = expr_pieces a ++ (mark (binary_mark op) ++ expr_pieces c)
  expr_pieces (choice c a z) = expr_pieces c ++ (mark m.Question ++ (expr_pieces a ++ (mark m.Colon ++ expr_pieces z)))
  expr_pieces (join parts) = in_braces (with_commas (each_expr parts))
  expr_pieces (repeat count parts) = in_braces (expr_pieces count ++ in_braces (with_commas (each_expr parts)))
  expr_pieces (paren a) = in_parens (expr_pieces a)

  pub each_expr : ExprTrees → List (List Printed)
  each_expr no_trees = []
  each_expr (and_trees a bs) = expr_pieces a ∷ each_expr bs

-- expressions with commas between them
abbrev pub exprs_pieces : List ExprTree → List Printed
exprs_pieces es = with_commas (map expr_pieces es)

-- a target
abbrev mutual
  pub target_pieces : TargetTree → List Printed
  target_pieces (whole n) = ident n
  target_pieces (index_of n i) = ident n ++ in_brackets (expr_pieces i)
  target_pieces (part_of n kind left right) = ident n ++ in_brackets (from_to kind (expr_pieces left) (expr_pieces right))
  target_pieces (join_of parts) = in_braces (with_commas (each_target parts))

  pub each_target : TargetTrees → List (List Printed)
  each_target no_parts = []
  each_target (and_parts a bs) = target_pieces a ∷ each_target bs

-- a word, and an expression in parentheses
abbrev pub opening : Keyword → ExprTree → List Printed
opening w c = word w ++ in_parens (expr_pieces c)

-- a delay, whose number has as many bits as a delay may have
abbrev pub delay_value : Delay → List Printed
delay_value (delay.Number v) = numeral v 64 Sized
delay_value (delay.Name n) = ident n

abbrev pub delay_pieces : Option Delay → List Printed
delay_pieces None = []
delay_pieces (Some d) = mark m.Hash ++ delay_value d

abbrev pub set_pieces : Bool → Option Delay → TargetTree → ExprTree → List Printed
set_pieces blocking d t e = target_pieces t ++ (mark (assign_mark blocking) ++ (delay_pieces d ++ (expr_pieces e ++ mark m.Semicolon)))

-- a label, and labels with commas between them
abbrev pub label_pieces : LabelTree → List Printed
label_pieces (by_value e) = expr_pieces e
label_pieces (by_mask value opened width) = mask value opened width

abbrev pub labels_pieces : List LabelTree → List Printed
labels_pieces ls = with_commas (map label_pieces ls)

-- the word of a `case`, and what it compares in parentheses
abbrev pub case_opening : Subject → List Printed
case_opening c = opening (case_word c.masks) c.value

-- a line of a block, and a line of a `case`
abbrev pub row_line : List Printed → List Printed
row_line s = s ++ new_line

abbrev pub arm_line : List LabelTree → List Printed → List Printed
arm_line labels s = labels_pieces labels ++ (mark m.Colon ++ (s ++ new_line))

abbrev pub default_line : List Printed → List Printed
default_line s = word k.Default ++ (mark m.Colon ++ (s ++ new_line))

-- a statement; a block and a `case` have a line for each entry
abbrev mutual
  pub stmt_pieces : StmtTree → List Printed
  stmt_pieces null = mark m.Semicolon
  stmt_pieces (set blocking d t e) = set_pieces blocking d t e
  stmt_pieces (when c s) = opening k.If c ++ stmt_pieces s
  stmt_pieces (either c s z) = opening k.If c ++ (stmt_pieces s ++ (word k.Else ++ stmt_pieces z))
  stmt_pieces (switch c arms) = case_opening c ++ (new_line ++ (in_turn (each_arm arms) ++ word k.EndCase))
  stmt_pieces (switch_else c arms d) = case_opening c ++ (new_line ++ (in_turn (each_arm arms) ++ (default_line (stmt_pieces d) ++ word k.EndCase)))
  stmt_pieces (block rows) = word k.Begin ++ (new_line ++ (in_turn (each_row rows) ++ word k.End))

  pub each_row : StmtTrees → List (List Printed)
  each_row no_rows = []
  each_row (and_rows s ss) = row_line (stmt_pieces s) ∷ each_row ss

  pub each_arm : ArmTrees → List (List Printed)
  each_arm no_arms = []
  each_arm (and_arms labels s arms) = arm_line labels (stmt_pieces s) ∷ each_arm arms

-- what is there, or nothing
abbrev pub if_any : {A : Type 0} → (A → List Printed) → Option A → List Printed
if_any f None = []
if_any f (Some a) = f a

abbrev pub bounds_pieces : Bounds → List Printed
bounds_pieces r = in_brackets (from_to Range (expr_pieces r.left) (expr_pieces r.right))

abbrev pub init_pieces : Option ExprTree → List Printed
init_pieces = if_any (λ e. mark m.Equals ++ expr_pieces e)

-- a parameter with the word before it
abbrev pub param_pieces : ParamTree → List Printed
param_pieces p = word (param_word p.local) ++ (if_any bounds_pieces p.range ++ (ident p.name ++ (mark m.Equals ++ expr_pieces p.value)))

abbrev pub kind_pieces : DeclKind → List Printed
kind_pieces Input = word k.Input
kind_pieces Output = word k.Output
kind_pieces OutputReg = word k.Output ++ word k.Reg
kind_pieces Wire = word k.Wire
kind_pieces Reg = word k.Reg

-- a declaration with the words of its kind before it
abbrev pub decl_pieces : DeclTree → List Printed
decl_pieces d = kind_pieces d.kind ++ (if_any bounds_pieces d.range ++ (ident d.name ++ (if_any bounds_pieces d.array ++ init_pieces d.init)))

abbrev pub gate_word : GateKind → Keyword
gate_word g.And = k.And
gate_word g.Nand = k.Nand
gate_word g.Or = k.Or
gate_word g.Nor = k.Nor
gate_word g.Xor = k.Xor
gate_word g.Xnor = k.Xnor
gate_word g.Buf = k.Buf
gate_word g.Not = k.Not

abbrev pub value_pieces : Option ExprTree → List Printed
value_pieces = if_any expr_pieces

abbrev pub conn_pieces : ConnTree → List Printed
conn_pieces c = mark m.Dot ++ (ident c.name ++ in_parens (value_pieces c.value))

-- connections, and those in parentheses
abbrev pub entries_pieces : ConnsTree → List Printed
entries_pieces (ordered es) = with_commas (map value_pieces es)
entries_pieces (named cs) = with_commas (map conn_pieces cs)

abbrev pub conns_pieces : ConnsTree → List Printed
conns_pieces c = in_parens (entries_pieces c)

-- overrides, of which an empty list is left out
abbrev pub overrides_pieces : ConnsTree → List Printed
overrides_pieces (ordered []) = []
overrides_pieces (ordered (e ∷ es)) = mark m.Hash ++ conns_pieces (ordered (e ∷ es))
overrides_pieces (named cs) = mark m.Hash ++ conns_pieces (named cs)

abbrev pub edge_words : EdgeKind → List Printed
edge_words Pos = word k.PosEdge
edge_words Neg = word k.NegEdge
edge_words Level = []

abbrev pub edge_pieces : Edge → List Printed
edge_pieces e = edge_words e.kind ++ ident e.name

abbrev pub event_pieces : Event → List Printed
event_pieces event.Star = mark m.At ++ mark m.Star
event_pieces (event.Edges es) = mark m.At ++ in_parens (separated (word k.Or) (map edge_pieces es))

-- an assignment, and a gate
abbrev pub assign_pieces : TargetTree → ExprTree → List Printed
assign_pieces t e = word k.Assign ++ (target_pieces t ++ (mark m.Equals ++ (expr_pieces e ++ mark m.Semicolon)))

abbrev pub gate_pieces : GateKind → List ExprTree → List Printed
gate_pieces kind es = word (gate_word kind) ++ (mark m.ParenOpen ++ (exprs_pieces es ++ (mark m.ParenClose ++ mark m.Semicolon)))

-- an instance
abbrev pub instance_pieces : List ℕ → ConnsTree → List ℕ → ConnsTree → List Printed
instance_pieces child params n ports = ident child ++ (overrides_pieces params ++ (ident n ++ (conns_pieces ports ++ mark m.Semicolon)))

-- an item up to its end
abbrev pub body_pieces : BodyTree → List Printed
body_pieces (param p) = param_pieces p ++ mark m.Semicolon
body_pieces (decl d) = decl_pieces d ++ mark m.Semicolon
body_pieces (assign t e) = assign_pieces t e
body_pieces (gate kind es) = gate_pieces kind es
body_pieces (instance child params n ports) = instance_pieces child params n ports
body_pieces (always e s) = word k.Always ++ (event_pieces e ++ stmt_pieces s)
body_pieces (initial s) = word k.Initial ++ stmt_pieces s

-- an item is a line
abbrev pub item_pieces : ItemTree → List Printed
item_pieces i = body_pieces i.body ++ new_line

-- the parameters of a header
abbrev pub header_pieces : List ParamTree → List Printed
header_pieces [] = []
header_pieces (p ∷ ps) = mark m.Hash ++ in_parens (with_commas (map param_pieces (p ∷ ps)))

-- whether a port of a header can only be read in its short form: one with a value whose kind is no `output reg`
abbrev pub is_short : DeclKind → Option ExprTree → Bool
is_short kind None = false
is_short OutputReg (Some e) = false
is_short kind (Some e) = true

abbrev pub declared_pieces : List ℕ → Option DeclTree → List Printed
declared_pieces n None = ident n
declared_pieces n (Some d) = if is_short d.kind d.init then ident n ++ init_pieces d.init else decl_pieces d

abbrev pub port_pieces : PortTree → List Printed
port_pieces p = declared_pieces p.name p.decl

-- a module, and a source
abbrev pub module_pieces : ModuleTree → List Printed
module_pieces s = word k.Module ++ (ident s.name ++ (header_pieces s.params ++ (mark m.ParenOpen ++ (with_commas (map port_pieces s.ports) ++ (mark m.ParenClose ++ (mark m.Semicolon ++ (new_line
    ++ (in_turn (map item_pieces s.items) ++ (word k.EndModule ++ new_line)))))))))

abbrev pub source_pieces : List ModuleTree → List Printed
source_pieces ms = in_turn (map module_pieces ms)
