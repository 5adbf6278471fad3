use Rattle.std.proofs.Common.{map, drop}
use Rattle.flat_meaning.specs.Design.{width_in}
use Rattle.flat_meaning.specs.Assigned.{cover}
use Rattle.flat_form.specs.View.{target_of, targets_of}
use Rattle.flat_form.specs.Masks.{bits_in}
use Rattle.flat_form.proofs.MaskSets.{Left}
use Rattle.flat_statements.proofs.latch.+add_surely.Given as goal

abbrev pub invariant-add_surely_of-loop-target : goal.invariant-add_surely_of-loop-target
invariant-add_surely_of-loop-target l =
    Left (bits_in l.initial.surely) l.surely (cover (width_in l.signals) (targets_of (map target_of (drop l.target-index l.targets)))) (cover (width_in l.signals) (targets_of (map target_of l.targets)))
