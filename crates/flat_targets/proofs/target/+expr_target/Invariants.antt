use Rattle.std.proofs.Common.{◌≡◌, map, drop, Some}
use Rattle.verilog_reading.specs.ExprTree.{TargetTrees, tree_of, trees_of}
use Rattle.flat_unfolding.specs.Names as n
use Rattle.flat_unfolding.specs.Targets.{as_targets}
use Rattle.flat_unfolding.specs.Formed.{AreFormed}
use Rattle.flat_names.specs.Looks.{Shows, IsFit}
use Rattle.flat_targets.proofs.Reading.{ReadsSoFar}
use Rattle.flat_targets.proofs.target.+expr_target.Given as goal

abbrev pub invariant-expr_targets-loop-expr : goal.invariant-expr_targets-loop-expr
invariant-expr_targets-loop-expr l = (k : n.Look) (ts : TargetTrees) → Shows l.look k → IsFit k → AreFormed (trees_of (map tree_of l.exprs)) → as_targets (trees_of (map tree_of l.exprs)) ≡ Some ts
    → ReadsSoFar k ts (trees_of (map tree_of (drop l.expr-index l.exprs))) l.initial.faults l.faults l.parts
