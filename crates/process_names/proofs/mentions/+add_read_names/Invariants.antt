use Rattle.std.proofs.Common.{◌≡◌, ◌++◌, map, drop}
use Rattle.verilog_reading.specs.StmtTree.{stmt_trees_of, arms_of, stmt_tree_of}
use Rattle.flat_unfolding.specs.Mentions.{all_read_names, arm_read_names}
use Rattle.process_names.specs.Forms.{arm_tree_of}
use Rattle.process_names.proofs.mentions.+add_read_names.Given as goal

abbrev pub invariant-add_all_read_names-loop-stmt : goal.invariant-add_all_read_names-loop-stmt
invariant-add_all_read_names-loop-stmt l = map (λ n. n.now) l.initial.names.items ++ all_read_names (stmt_trees_of (map stmt_tree_of l.stmts)) ≡ map (λ n. n.now) l.names.items ++ all_read_names (stmt_trees_of (map stmt_tree_of (drop l.stmt-index l.stmts)))

abbrev pub invariant-add_item_read_names-loop-item : goal.invariant-add_item_read_names-loop-item
invariant-add_item_read_names-loop-item l = map (λ n. n.now) l.initial.names.items ++ arm_read_names (arms_of (map arm_tree_of l.items)) ≡ map (λ n. n.now) l.names.items ++ arm_read_names (arms_of (map arm_tree_of (drop l.item-index l.items)))
