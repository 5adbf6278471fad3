use Rattle.std.proofs.Common.{drop}
use Rattle.flat_unfolding.specs.Names as n
use Rattle.flat_unfolding.specs.Formed.{AreTargetsFormed}
use Rattle.flat_names.specs.Looks.{Shows, IsFit}
use Rattle.flat_targets.specs.Aims.{use_of, trees_in}
use Rattle.flat_targets.proofs.AimedParts.{SoFar}
use Rattle.flat_targets.proofs.target.+target.Given as goal

abbrev pub invariant-fixed_targets-loop-target : goal.invariant-fixed_targets-loop-target
invariant-fixed_targets-loop-target l = (k : n.Look) → Shows l.look k → IsFit k → AreTargetsFormed (trees_in l.targets)
    → SoFar k (use_of l.assigned) (trees_in l.targets) (trees_in (drop l.target-index l.targets)) l.initial.faults l.faults l.parts × AreTargetsFormed (trees_in (drop l.target-index l.targets))
