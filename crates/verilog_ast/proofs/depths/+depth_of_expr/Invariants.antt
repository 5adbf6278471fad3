use Rattle.std.proofs.Common.{◌≡◌, max, map, drop}
use Rattle.verilog_ast.specs.Depth.{capped, greatest, expr_depth}
use Rattle.verilog_ast.proofs.depths.+depth_of_expr.Given as goal

abbrev pub invariant-deepest_expr-loop-expr : goal.invariant-deepest_expr-loop-expr
invariant-deepest_expr-loop-expr l = capped (greatest (map expr_depth l.exprs)) ≡ max l.most (capped (greatest (map expr_depth (drop l.expr-index l.exprs))))
