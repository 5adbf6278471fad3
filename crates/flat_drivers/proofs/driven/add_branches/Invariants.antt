use Rattle.std.proofs.Common.{drop}
use Rattle.flat_form.specs.Masks.{has_signal}
use Rattle.flat_form.proofs.Listed.{Unlisted}
use Rattle.flat_drivers.proofs.Assigned.{set_in}
use Rattle.flat_drivers.proofs.driven.add_branches.Given as goal

abbrev pub invariant-loop-reset : goal.invariant-loop-reset
invariant-loop-reset l = Unlisted (has_signal l.initial.driven) l.driven (set_in (drop l.reset-index l.resets)) (set_in l.resets)
