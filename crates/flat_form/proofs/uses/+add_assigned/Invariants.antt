use Rattle.std.proofs.Common.{map, drop}
use Rattle.flat_meaning.specs.Flat.{are_targets}
use Rattle.flat_meaning.specs.Design.{width_in}
use Rattle.flat_meaning.specs.Assigned.{reach}
use Rattle.flat_form.specs.View.{target_of, targets_of}
use Rattle.flat_form.specs.Masks.{bits_in, has_signal}
use Rattle.flat_form.proofs.MaskSets.{Left}
use Rattle.flat_form.proofs.Listed.{Unlisted}
use Rattle.flat_form.proofs.uses.+add_assigned.Given as goal

abbrev pub invariant-add_assigned_of-loop-target : goal.invariant-add_assigned_of-loop-target
invariant-add_assigned_of-loop-target l = record {
  added : Left (bits_in l.initial.assigned) l.assigned (reach (width_in l.signals) (targets_of (map target_of (drop l.target-index l.targets)))) (reach (width_in l.signals) (targets_of (map target_of l.targets)));
  listed : Unlisted (has_signal l.initial.assigned) l.assigned (are_targets (targets_of (map target_of (drop l.target-index l.targets)))) (are_targets (targets_of (map target_of l.targets)));
}
