use Rattle.std.proofs.Common.{◌≡◌, ◌++◌, map, drop}
use Rattle.std.specs.Prelude.{flat_map}
use Rattle.verilog_reading.specs.StmtTree.{label_tree_of}
use Rattle.flat_unfolding.specs.Mentions.{label_names}
use Rattle.process_names.proofs.mentions.add_all_label_names.Given as goal

abbrev pub invariant-loop-label : goal.invariant-loop-label
invariant-loop-label l = map (λ n. n.now) l.initial.names.items ++ flat_map label_names (map label_tree_of l.labels) ≡ map (λ n. n.now) l.names.items ++ flat_map label_names (map label_tree_of (drop l.label-index l.labels))
