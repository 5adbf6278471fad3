use Rattle.std.proofs.Common.{drop}
use Rattle.flat_form.specs.Masks.{has_signal}
use Rattle.flat_form.proofs.Listed.{Unlisted}
use Rattle.flat_drivers.proofs.Assigned.{targets_in}
use Rattle.flat_drivers.proofs.driven.add_targets.Given as goal

abbrev pub invariant-loop-assign : goal.invariant-loop-assign
invariant-loop-assign l = Unlisted (has_signal l.initial.driven) l.driven (targets_in (drop l.assign-index l.assigns)) (targets_in l.assigns)
