use Rattle.std.proofs.Common.{◌≡◌, map, drop}
use Rattle.flat_form.specs.View.{target_of, targets_of}
use Rattle.flat_unfolding.specs.Targets.{first_pick_in}
use Rattle.flat_targets.proofs.target.+first_index.Given as goal

abbrev pub invariant-first_index_of-loop-target : goal.invariant-first_index_of-loop-target
invariant-first_index_of-loop-target l = first_pick_in (targets_of (map target_of l.targets)) ≡ first_pick_in (targets_of (map target_of (drop l.target-index l.targets)))
