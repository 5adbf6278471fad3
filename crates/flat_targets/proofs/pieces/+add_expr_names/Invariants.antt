use Rattle.std.proofs.Common.{◌≡◌, map, drop, Some}
use Rattle.verilog_reading.specs.ExprTree.{TargetTrees, tree_of, trees_of}
use Rattle.flat_unfolding.specs.Targets.{as_targets}
use Rattle.flat_targets.proofs.PieceRules.{NamesLeft}
use Rattle.flat_targets.proofs.pieces.+add_expr_names.Given as goal

abbrev pub invariant-add_expr_names_of-loop-expr : goal.invariant-add_expr_names_of-loop-expr
invariant-add_expr_names_of-loop-expr l = (ts : TargetTrees) → as_targets (trees_of (map tree_of l.exprs)) ≡ Some ts
    → NamesLeft (trees_of (map tree_of l.exprs)) (trees_of (map tree_of (drop l.expr-index l.exprs))) ts (map (λ n. n.now) l.initial.names.items) (map (λ n. n.now) l.names.items)
