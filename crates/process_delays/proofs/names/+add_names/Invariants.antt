use Rattle.std.proofs.Common.{◌≡◌, ◌++◌, map, drop}
use Rattle.verilog_reading.specs.ExprTree.{target_tree_of, target_trees_of}
use Rattle.flat_unfolding.specs.Mentions.{all_aimed_names}
use Rattle.process_delays.proofs.names.+add_names.Given as goal

abbrev pub invariant-add_names_of-loop-target : goal.invariant-add_names_of-loop-target
invariant-add_names_of-loop-target l = map (λ n. n.now) l.initial.names.items ++ all_aimed_names (target_trees_of (map target_tree_of l.targets))
    ≡ map (λ n. n.now) l.names.items ++ all_aimed_names (target_trees_of (map target_tree_of (drop l.target-index l.targets)))
