-- A part of an expression is no deeper than the whole.
use Rattle.std.proofs.Common.{rules, ◌≡◌, ℕ, ◌≤◌, Box, Global}
use Rattle.flat_form.specs.declared.flat.FUnaryOp.{FUnaryOp}
use Rattle.verilog_ast.specs.declared.BinaryOp.{BinaryOp}
use Rattle.flat_form.specs.declared.flat.FExpr.{FExpr, size-FExpr}
use Rattle.flat_form.specs.declared.flat.FExpr.TheVariants as e
use Rattle.flat_form.specs.declared.flat.FExpr.TheViews.{the_lemmas}

pub other-smaller : (x z : FExpr) (c y o : Box FExpr Global) (w : ℕ) → x ≡ e.Choose c y o w → z ≡ o.value → size-FExpr z ≤ size-FExpr x
other-smaller x z c y o w h d = search (rules, the_lemmas)

pub index-smaller : (x z : FExpr) (sig : ℕ) (index : Box FExpr Global) (w : ℕ) → x ≡ e.At sig index w → z ≡ index.value → size-FExpr z ≤ size-FExpr x
index-smaller x z sig index w h d = search (rules, the_lemmas)

pub operand-smaller : (x z : FExpr) (op : FUnaryOp) (a : Box FExpr Global) (w : ℕ) → x ≡ e.Unary op a w → z ≡ a.value → size-FExpr z ≤ size-FExpr x
operand-smaller x z op a w h d = search (rules, the_lemmas)

pub left-smaller : (x z : FExpr) (op : BinaryOp) (a b : Box FExpr Global) (w : ℕ) → x ≡ e.Binary op a b w → z ≡ a.value → size-FExpr z ≤ size-FExpr x
left-smaller x z op a b w h d = search (rules, the_lemmas)
