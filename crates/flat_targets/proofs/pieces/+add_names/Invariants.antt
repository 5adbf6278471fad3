use Rattle.std.proofs.Common.{◌≡◌, ◌++◌, map, drop}
use Rattle.flat_targets.specs.Aims.{trees_in}
use Rattle.flat_targets.specs.Pieces.{part_names_in}
use Rattle.flat_targets.proofs.pieces.+add_names.Given as goal

abbrev pub invariant-add_names_of-loop-target : goal.invariant-add_names_of-loop-target
invariant-add_names_of-loop-target l = map (λ n. n.now) l.initial.names.items ++ part_names_in (trees_in l.targets) ≡ map (λ n. n.now) l.names.items ++ part_names_in (trees_in (drop l.target-index l.targets))
