use Rattle.std.proofs.Common.{◌≡◌, ◌++◌, map, drop}
use Rattle.verilog_reading.specs.ExprTree.{tree_of, trees_of}
use Rattle.flat_unfolding.specs.Mentions.{all_names_in}
use Rattle.process_names.proofs.mentions.+add_expr_names.Given as goal

abbrev pub invariant-add_all_expr_names-loop-expr : goal.invariant-add_all_expr_names-loop-expr
invariant-add_all_expr_names-loop-expr l = map (λ n. n.now) l.initial.names.items ++ all_names_in (trees_of (map tree_of l.exprs)) ≡ map (λ n. n.now) l.names.items ++ all_names_in (trees_of (map tree_of (drop l.expr-index l.exprs)))
