use Rattle.std.proofs.Common.{◌≡◌, ◌++◌, map, drop}
use Rattle.verilog_reading.specs.ExprTree.{target_tree_of, target_trees_of}
use Rattle.flat_unfolding.specs.Mentions.{all_index_names}
use Rattle.process_names.proofs.mentions.+add_index_names.Given as goal

abbrev pub invariant-add_all_index_names-loop-target : goal.invariant-add_all_index_names-loop-target
invariant-add_all_index_names-loop-target l = map (λ n. n.now) l.initial.names.items ++ all_index_names (target_trees_of (map target_tree_of l.targets)) ≡ map (λ n. n.now) l.names.items ++ all_index_names (target_trees_of (map target_tree_of (drop l.target-index l.targets)))
