use Rattle.std.proofs.Common.{◌≡◌, map, drop}
use Rattle.verilog_reading.specs.ExprTree.{target_tree_of, target_trees_of}
use Rattle.flat_unfolding.specs.Names as n
use Rattle.flat_unfolding.specs.Formed.{AreTargetsFormed}
use Rattle.flat_unfolding.specs.Resets.{has_variable_index_in}
use Rattle.flat_names.specs.Looks.{Shows, IsFit}
use Rattle.flat_process.proofs.reset.+has_variable_index.Given as goal

abbrev pub invariant-have_variable_index-loop-target : goal.invariant-have_variable_index-loop-target
invariant-have_variable_index-loop-target l = (k : n.Look) → Shows l.look k → IsFit k → AreTargetsFormed (target_trees_of (map target_tree_of l.targets))
    → (has_variable_index_in k (target_trees_of (map target_tree_of (drop l.target-index l.targets))) ≡ has_variable_index_in k (target_trees_of (map target_tree_of l.targets)))
    × AreTargetsFormed (target_trees_of (map target_tree_of (drop l.target-index l.targets)))
