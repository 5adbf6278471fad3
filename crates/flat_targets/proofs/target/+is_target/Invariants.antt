use Rattle.std.proofs.Common.{◌≡◌, map, is_some, drop}
use Rattle.verilog_reading.specs.ExprTree.{tree_of, trees_of}
use Rattle.flat_unfolding.specs.Targets.{as_targets}
use Rattle.flat_targets.proofs.target.+is_target.Given as goal

abbrev pub invariant-are_targets-loop-expr : goal.invariant-are_targets-loop-expr
invariant-are_targets-loop-expr l = is_some (as_targets (trees_of (map tree_of l.exprs))) ≡ is_some (as_targets (trees_of (map tree_of (drop l.expr-index l.exprs))))
