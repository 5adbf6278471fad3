use Rattle.std.proofs.Common.{drop}
use Rattle.flat_form.specs.Masks.{has_signal}
use Rattle.flat_form.proofs.Listed.{Unlisted}
use Rattle.flat_drivers.proofs.Assigned.{wired_in}
use Rattle.flat_drivers.proofs.driven.add_wires.Given as goal

abbrev pub invariant-loop-process : goal.invariant-loop-process
invariant-loop-process l = Unlisted (has_signal l.initial.driven) l.driven (wired_in (drop l.process-index l.combs)) (wired_in l.combs)
