use Rattle.std.proofs.Common.{◌≡◌, map, drop}
use Rattle.verilog_reading.specs.StmtTree.{stmt_tree_of, stmt_trees_of, arms_of}
use Rattle.process_delays.specs.Walks.{are_delayed, are_arms_delayed, arm_tree_of}
use Rattle.process_delays.proofs.walk.+has_delay.Given as goal

abbrev pub invariant-have_delay-loop-stmt : goal.invariant-have_delay-loop-stmt
invariant-have_delay-loop-stmt l = are_delayed (stmt_trees_of (map stmt_tree_of (drop l.stmt-index l.stmts))) ≡ are_delayed (stmt_trees_of (map stmt_tree_of l.stmts))

abbrev pub invariant-items_have_delay-loop-item : goal.invariant-items_have_delay-loop-item
invariant-items_have_delay-loop-item l = are_arms_delayed (arms_of (map arm_tree_of (drop l.item-index l.items))) ≡ are_arms_delayed (arms_of (map arm_tree_of l.items))
