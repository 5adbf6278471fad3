-- How deep a source is.
use Rattle.std.specs.Prelude.{ℕ, ◌+◌, ◌-◌, ◌^◌, max, min, List, [], ◌∷◌, map, Option, Some, None, Box}
use Rattle.std.specs.declared.alloc.Global.{Global}
use Rattle.verilog_ast.specs.declared.Expr.{Expr}
use Rattle.verilog_ast.specs.declared.Expr.TheOpen.{Expr-F}
use Rattle.verilog_ast.specs.declared.Expr.TheFolds.{fold-Expr}
use Rattle.verilog_ast.specs.declared.Target.{Target}
use Rattle.verilog_ast.specs.declared.Target.TheOpen.{Target-F}
use Rattle.verilog_ast.specs.declared.Target.TheFolds.{fold-Target}
use Rattle.verilog_ast.specs.declared.Stmt.{Stmt}
use Rattle.verilog_ast.specs.declared.Stmt.TheOpen.{Stmt-F, CaseItem-F}
use Rattle.verilog_ast.specs.declared.Stmt.TheFolds.{fold-Stmt, fold-CaseItem}
use Rattle.verilog_ast.specs.declared.CaseItem.{CaseItem}
use Rattle.verilog_ast.specs.declared.Label.{Label}
use Rattle.verilog_ast.specs.declared.Label.TheVariants as label
use Rattle.verilog_ast.specs.declared.Range.{Range}
use Rattle.verilog_ast.specs.declared.ParamDecl.{ParamDecl}
use Rattle.verilog_ast.specs.declared.Decl.{Decl}
use Rattle.verilog_ast.specs.declared.Port.{Port}
use Rattle.verilog_ast.specs.declared.Conn.{Conn}
use Rattle.verilog_ast.specs.declared.Conns.{Conns}
use Rattle.verilog_ast.specs.declared.Conns.TheVariants as conns
use Rattle.verilog_ast.specs.declared.ItemBody.{ItemBody}
use Rattle.verilog_ast.specs.declared.ItemBody.TheVariants as body
use Rattle.verilog_ast.specs.declared.Item.{Item}
use Rattle.verilog_ast.specs.declared.Module.{Module}
use Rattle.verilog_ast.specs.declared.Source.{Source}

-- a number as its type holds it, which stands still at the end
abbrev pub capped : ℕ → ℕ
capped n = min n (2 ^ 32 - 1)

abbrev pub greatest : List ℕ → ℕ
greatest [] = 0
greatest (n ∷ ns) = max n (greatest ns)

abbrev pub expr_step : Expr-F ℕ → ℕ
expr_step (Expr-F.Number value width spelt) = 1
expr_step (Expr-F.Ident name) = 1
expr_step (Expr-F.At name index) = index.value + 1
expr_step (Expr-F.Part name kind left right) = max left.value right.value + 1
expr_step (Expr-F.Unary op a) = a.value + 1
expr_step (Expr-F.Binary op a b) = max a.value b.value + 1
expr_step (Expr-F.Choose cond chosen other) = max (max cond.value chosen.value) other.value + 1
expr_step (Expr-F.Join parts) = greatest parts + 1
expr_step (Expr-F.Repeat count parts) = max count.value (greatest parts) + 1
expr_step (Expr-F.Paren inner) = inner.value + 1

abbrev pub expr_depth : Expr → ℕ
expr_depth = fold-Expr ℕ expr_step

abbrev pub target_step : Target-F ℕ → ℕ
target_step (Target-F.Whole name) = 1
target_step (Target-F.At name index) = expr_depth index + 1
target_step (Target-F.Part name kind left right) = max (expr_depth left) (expr_depth right) + 1
target_step (Target-F.Join parts) = greatest parts + 1

abbrev pub target_depth : Target → ℕ
target_depth = fold-Target ℕ target_step

abbrev pub label_depth : Label → ℕ
label_depth (label.Value e) = expr_depth e
label_depth (label.Mask value open_bits width) = 1

abbrev pub of_boxed : Option (Box ℕ Global) → ℕ
of_boxed None = 0
of_boxed (Some b) = b.value

abbrev pub stmt_step : Stmt-F ℕ ℕ → ℕ
stmt_step Stmt-F.Null = 1
stmt_step (Stmt-F.Set blocking delay target value) = max (target_depth target) (expr_depth value) + 1
stmt_step (Stmt-F.If cond chosen other) = max (max (expr_depth cond) chosen.value) (of_boxed other) + 1
stmt_step (Stmt-F.Case masks subject items rest) = max (max (expr_depth subject) (greatest items)) (of_boxed rest) + 1
stmt_step (Stmt-F.Block parts) = greatest parts + 1

-- an item of a `case` is no level of its own
abbrev pub case_item_step : CaseItem-F ℕ ℕ → ℕ
case_item_step i = max (greatest (map label_depth i.labels)) i.body

abbrev pub stmt_depth : Stmt → ℕ
stmt_depth = fold-Stmt ℕ ℕ stmt_step case_item_step

abbrev pub case_item_depth : CaseItem → ℕ
case_item_depth = fold-CaseItem ℕ ℕ stmt_step case_item_step

-- the depth of what may be left out
abbrev pub optional : {A : Type 0} → (A → ℕ) → Option A → ℕ
optional depth None = 0
optional depth (Some a) = depth a

abbrev pub range_depth : Range → ℕ
range_depth r = max (expr_depth r.left) (expr_depth r.right)

abbrev pub param_depth : ParamDecl → ℕ
param_depth p = max (optional range_depth p.range) (expr_depth p.value)

abbrev pub decl_depth : Decl → ℕ
decl_depth d = max (max (optional range_depth d.range) (optional expr_depth d.init)) (optional range_depth d.array)

abbrev pub port_depth : Port → ℕ
port_depth p = optional decl_depth p.decl

abbrev pub conn_depth : Conn → ℕ
conn_depth c = optional expr_depth c.value

abbrev pub conns_depth : Conns → ℕ
conns_depth (conns.Ordered entries) = greatest (map (optional expr_depth) entries)
conns_depth (conns.Named entries) = greatest (map conn_depth entries)

abbrev pub body_depth : ItemBody → ℕ
body_depth (body.Param p) = param_depth p
body_depth (body.Decl d) = decl_depth d
body_depth (body.Assign target value) = max (target_depth target) (expr_depth value)
body_depth (body.Gate kind terminals) = greatest (map expr_depth terminals)
body_depth (body.Instance child params name ports) = max (conns_depth params) (conns_depth ports)
body_depth (body.Always event stmt) = stmt_depth stmt
body_depth (body.Initial stmt) = stmt_depth stmt

abbrev pub item_depth : Item → ℕ
item_depth i = body_depth i.body

abbrev pub module_depth : Module → ℕ
module_depth m =
    max (max (greatest (map param_depth m.params)) (greatest (map port_depth m.ports))) (greatest (map item_depth m.items))

abbrev pub source_depth : Source → ℕ
source_depth s = greatest (map module_depth s.modules)
