use Rattle.std.proofs.Common.{◌≡◌, ◌++◌, map, drop}
use Rattle.verilog_reading.specs.StmtTree.{stmt_trees_of, arms_of, stmt_tree_of}
use Rattle.flat_unfolding.specs.Mentions.{all_assigned_names, arm_assigned_names}
use Rattle.process_names.specs.Forms.{arm_tree_of, test_of}
use Rattle.process_names.proofs.mentions.+add_assigned_names.Given as goal

abbrev pub invariant-add_all_assigned_names-loop-stmt : goal.invariant-add_all_assigned_names-loop-stmt
invariant-add_all_assigned_names-loop-stmt l = map (λ n. n.now) l.initial.names.items ++ all_assigned_names (test_of l.form) (stmt_trees_of (map stmt_tree_of l.stmts)) ≡ map (λ n. n.now) l.names.items ++ all_assigned_names (test_of l.form) (stmt_trees_of (map stmt_tree_of (drop l.stmt-index l.stmts)))

abbrev pub invariant-add_item_assigned_names-loop-item : goal.invariant-add_item_assigned_names-loop-item
invariant-add_item_assigned_names-loop-item l = map (λ n. n.now) l.initial.names.items ++ arm_assigned_names (test_of l.form) (arms_of (map arm_tree_of l.items)) ≡ map (λ n. n.now) l.names.items ++ arm_assigned_names (test_of l.form) (arms_of (map arm_tree_of (drop l.item-index l.items)))
