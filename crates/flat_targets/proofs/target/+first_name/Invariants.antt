use Rattle.std.proofs.Common.{◌≡◌}
use Rattle.flat_unfolding.specs.Formed.{AreTargetsFormed}
use Rattle.flat_targets.specs.Aims.{trees_in}
use Rattle.flat_targets.proofs.target.+first_name.Given as goal

-- a formed target has a name
abbrev pub invariant-first_name_of-loop-target : goal.invariant-first_name_of-loop-target
invariant-first_name_of-loop-target l = AreTargetsFormed (trees_in l.targets) → l.target-index ≡ 0
