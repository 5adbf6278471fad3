use Rattle.std.proofs.Common.{◌≡◌, ◌++◌, map, drop}
use Rattle.verilog_reading.specs.ExprTree.{tree_of}
use Rattle.verilog_items.proofs.copy.+copy.Given as goal

abbrev pub invariant-copy_exprs-loop-expr : goal.invariant-copy_exprs-loop-expr
invariant-copy_exprs-loop-expr l = map tree_of l.exprs ≡ map tree_of l.copies ++ map tree_of (drop l.expr-index l.exprs)
