use Rattle.std.specs.Prelude.{map, drop}
use Rattle.verilog_reading.specs.StmtTree.{stmt_tree_of, stmt_trees_of, arms_of}
use Rattle.flat_unfolding.specs.Names.{Look}
use Rattle.flat_unfolding.specs.Formed.{AreRowsFormed, AreArmsFormed}
use Rattle.flat_names.specs.Looks.{Shows, IsFit}
use Rattle.flat_statements.specs.Statements.{kind_of, arm_tree_of}
use Rattle.flat_statements.proofs.Loops.{BlockSoFar, ArmsSoFar}
use Rattle.flat_statements.proofs.Items.{WaysSoFar}
use Rattle.flat_statements.proofs.statement.+statement.Given as goal

abbrev pub invariant-block-loop-stmt : goal.invariant-block-loop-stmt
invariant-block-loop-stmt l = (k : Look) → Shows l.look k → IsFit k → AreRowsFormed (stmt_trees_of (map stmt_tree_of l.stmts)) → BlockSoFar k (kind_of l.mode) l.stmts (drop l.stmt-index l.stmts) l.all.items l.initial.faults l.faults

abbrev pub invariant-case_items-loop-item : goal.invariant-case_items-loop-item
invariant-case_items-loop-item l = (k : Look) → Shows l.look k → IsFit k → AreArmsFormed (arms_of (map arm_tree_of l.items))
    → ArmsSoFar k (kind_of l.mode) l.items (drop l.item-index l.items) l.cases.items.items l.cases.is_sound l.cases.is_constant l.initial.faults l.faults

abbrev pub invariant-mask_items-loop-item : goal.invariant-mask_items-loop-item
invariant-mask_items-loop-item l = (k : Look) → Shows l.look k → IsFit k → AreArmsFormed (arms_of (map arm_tree_of l.items))
    → WaysSoFar k (kind_of l.mode) l.items (drop l.item-index l.items) l.all.items l.initial.faults l.faults
