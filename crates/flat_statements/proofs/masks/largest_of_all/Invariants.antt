use Rattle.std.specs.Prelude.{map, drop}
use Rattle.verilog_reading.specs.StmtTree.{arms_of}
use Rattle.flat_unfolding.specs.Names.{Look}
use Rattle.flat_unfolding.specs.Formed.{AreArmsFormed}
use Rattle.flat_names.specs.Looks.{Shows, IsFit}
use Rattle.flat_statements.specs.Statements.{arm_tree_of}
use Rattle.flat_statements.proofs.MetLabels.{SizeSoFar}
use Rattle.flat_statements.proofs.masks.largest_of_all.Given as goal

abbrev pub invariant-loop-item : goal.invariant-loop-item
invariant-loop-item l = (k : Look) → Shows l.look k → IsFit k → AreArmsFormed (arms_of (map arm_tree_of l.items)) → SizeSoFar k l.width l.items (drop l.item-index l.items) l.size l.initial.faults l.faults
