-- What brackets behind a name hold, as the parser keeps it.
use Rattle.std.specs.Prelude.{Option, Some, None}
use Rattle.verilog_ast.specs.declared.Expr.{Expr}
use Rattle.verilog_exprs.specs.declared.make.PartEnd.{PartEnd}
use Rattle.verilog_reading.specs.ExprTree.{tree_of}
use Rattle.verilog_reading.specs.Reader.{Select, at_index, between}

abbrev pub selection_of : Expr → Option PartEnd → Select
selection_of index None = at_index (tree_of index)
selection_of index (Some right) = between right.kind (tree_of index) (tree_of right.expr)
