use Rattle.std.proofs.Common.{map, drop}
use Rattle.verilog_reading.specs.StmtTree.{stmt_tree_of, stmt_trees_of}
use Rattle.flat_unfolding.specs.Names as n
use Rattle.flat_unfolding.specs.Formed.{AreRowsFormed}
use Rattle.flat_names.specs.Looks.{Shows, IsFit}
use Rattle.flat_process.proofs.ResetRows.{RowsSoFar}
use Rattle.flat_process.proofs.reset.block_given.Given as goal

abbrev pub invariant-loop-stmt : goal.invariant-loop-stmt
invariant-loop-stmt l = (k : n.Look) → Shows l.look k → IsFit k → AreRowsFormed (stmt_trees_of (map stmt_tree_of l.stmts))
    → RowsSoFar k (stmt_trees_of (map stmt_tree_of l.stmts)) (stmt_trees_of (map stmt_tree_of (drop l.stmt-index l.stmts))) l.given.items
