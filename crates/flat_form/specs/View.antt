-- The flat designs that the Rust types stand for, without pointers. The widths that the types keep are left out: a size is computed.
use Rattle.std.specs.Prelude.{ℕ, List, [], ◌∷◌, map, Option, Some, None, Box}
use Rattle.std.specs.declared.alloc.Global.{Global}
use Rattle.flat_form.specs.declared.flat.FUnaryOp.{FUnaryOp}
use Rattle.flat_form.specs.declared.flat.FUnaryOp.TheVariants as u
use Rattle.verilog_ast.specs.declared.BinaryOp.{BinaryOp}
use Rattle.verilog_ast.specs.declared.BinaryOp.TheVariants as b
use Rattle.flat_form.specs.declared.flat.Flat.{Flat}
use Rattle.flat_form.specs.declared.flat.FlatAssign.{FlatAssign}
use Rattle.flat_form.specs.declared.flat.FlatComb.{FlatComb}
use Rattle.flat_form.specs.declared.flat.FlatClocked.{FlatClocked}
use Rattle.flat_form.specs.declared.flat.FlatReset.{FlatReset}
use Rattle.flat_form.specs.declared.flat.FExpr.{FExpr}
use Rattle.flat_form.specs.declared.flat.FExpr.TheOpen.{FExpr-F}
use Rattle.flat_form.specs.declared.flat.FExpr.TheFolds.{fold-FExpr}
use Rattle.flat_form.specs.declared.flat.FTarget.{FTarget}
use Rattle.flat_form.specs.declared.flat.FTarget.TheOpen.{FTarget-F}
use Rattle.flat_form.specs.declared.flat.FTarget.TheFolds.{fold-FTarget}
use Rattle.flat_form.specs.declared.flat.FStmt.{FStmt}
use Rattle.flat_form.specs.declared.flat.FCaseItem.{FCaseItem}
use Rattle.flat_form.specs.declared.flat.FStmt.TheOpen.{FStmt-F, FCaseItem-F}
use Rattle.flat_form.specs.declared.flat.FStmt.TheFolds.{fold-FStmt, fold-FCaseItem}
use Rattle.flat_meaning.specs.Flat as f
use Rattle.flat_meaning.specs.Design as d

abbrev pub unary_of : FUnaryOp → f.UnaryOp
unary_of u.Not = f.complement
unary_of u.LogicNot = f.logical_not
unary_of u.And = f.reduce_and
unary_of u.Or = f.reduce_or
unary_of u.Xor = f.reduce_xor
unary_of u.Nand = f.reduce_nand
unary_of u.Nor = f.reduce_nor
unary_of u.Xnor = f.reduce_xnor

abbrev pub binary_of : BinaryOp → f.BinaryOp
binary_of b.Mul = f.times
binary_of b.Div = f.divided
binary_of b.Mod = f.remainder
binary_of b.Add = f.plus
binary_of b.Sub = f.minus
binary_of b.Shl = f.shift_left
binary_of b.Shr = f.shift_right
binary_of b.Lt = f.is_less
binary_of b.Le = f.is_at_most
binary_of b.Gt = f.is_greater
binary_of b.Ge = f.is_at_least
binary_of b.Eq = f.is_equal
binary_of b.Ne = f.is_unequal
binary_of b.And = f.bitwise_and
binary_of b.Xor = f.bitwise_xor
binary_of b.Xnor = f.bitwise_xnor
binary_of b.Or = f.bitwise_or
binary_of b.LogicAnd = f.logical_and
binary_of b.LogicOr = f.logical_or

abbrev pub exprs_of : List f.Expr → f.Exprs
exprs_of [] = f.no_exprs
exprs_of (e ∷ es) = f.expr e (exprs_of es)

abbrev pub expr_step : FExpr-F f.Expr → f.Expr
expr_step (FExpr-F.Number value width) = f.Number width value
expr_step (FExpr-F.Read sig at width) = f.Read sig at width
expr_step (FExpr-F.At sig index width) = f.At sig index.value
expr_step (FExpr-F.Unary op a width) = f.Unary (unary_of op) a.value
expr_step (FExpr-F.Binary op a b width) = f.Binary (binary_of op) a.value b.value
expr_step (FExpr-F.Choose c x y width) = f.Choose c.value x.value y.value
expr_step (FExpr-F.Gate op inputs) = f.Gate (binary_of op) (exprs_of inputs)
expr_step (FExpr-F.Join parts width) = f.Join (exprs_of parts)
expr_step (FExpr-F.Repeat count parts width) = f.Repeat count (exprs_of parts)

abbrev pub expr_of : FExpr → f.Expr
expr_of = fold-FExpr f.Expr expr_step

abbrev pub targets_of : List f.Target → f.Targets
targets_of [] = f.no_targets
targets_of (t ∷ ts) = f.target t (targets_of ts)

abbrev pub target_step : FTarget-F f.Target → f.Target
target_step (FTarget-F.Whole sig) = f.Whole sig
target_step (FTarget-F.At sig index) = f.Pick sig (expr_of index)
target_step (FTarget-F.Part sig at width) = f.Part sig at width
target_step (FTarget-F.Join parts) = f.Group (targets_of parts)

abbrev pub target_of : FTarget → f.Target
target_of = fold-FTarget f.Target target_step

abbrev pub stmts_of : List f.Stmt → f.Stmts
stmts_of [] = f.no_stmts
stmts_of (s ∷ ss) = f.stmt s (stmts_of ss)

-- an item of a `case`
pub record Arm : Type 0 where
  pub labels : f.Exprs
  pub body : f.Stmt

abbrev pub last_of : Option (Box f.Stmt Global) → f.Items
last_of None = f.no_items
last_of (Some s) = f.default_item s.value

abbrev pub items_of : List Arm → f.Items → f.Items
items_of [] last = last
items_of (a ∷ rest) last = f.item a.labels a.body (items_of rest last)

abbrev pub otherwise_of : Option (Box f.Stmt Global) → f.Stmt
otherwise_of None = f.Null
otherwise_of (Some s) = s.value

abbrev pub stmt_step : FStmt-F f.Stmt Arm → f.Stmt
stmt_step FStmt-F.Null = f.Null
stmt_step (FStmt-F.Set blocking target value) = f.Set blocking (target_of target) (expr_of value)
stmt_step (FStmt-F.If cond chosen other) = f.If (expr_of cond) chosen.value (otherwise_of other)
stmt_step (FStmt-F.Case subject items default) = f.Case (expr_of subject) (items_of items (last_of default))
stmt_step (FStmt-F.Block parts) = f.Block (stmts_of parts)

abbrev pub arm_step : FCaseItem-F f.Stmt Arm → Arm
arm_step i = record { labels = exprs_of (map expr_of i.labels); body = i.body }

abbrev pub stmt_of : FStmt → f.Stmt
stmt_of = fold-FStmt f.Stmt Arm stmt_step arm_step

abbrev pub arm_of : FCaseItem → Arm
arm_of = fold-FCaseItem f.Stmt Arm stmt_step arm_step

abbrev pub flat_of : Flat → d.Flat
flat_of f = record {
  signals = f.signals;
  assigns = map (λ (a : FlatAssign). (target_of a.target, expr_of a.value)) f.assigns;
  combs = map (λ (p : FlatComb). stmt_of p.body) f.combs;
  clocked = map (λ (p : FlatClocked). (p.clock, stmt_of p.body)) f.clocked;
  outputs = f.outputs;
}

abbrev pub reset_of : FlatReset → Option ℕ × f.Stmt
reset_of r = (r.edge, stmt_of r.branch)
