use Rattle.std.proofs.Common.{drop}
use Rattle.flat_meaning.specs.Design.{width_in, times_processed}
use Rattle.flat_unfolding.specs.Drivers.{assigned_by}
use Rattle.flat_drivers.specs.Driving.{wires_in}
use Rattle.flat_drivers.proofs.Counted.{Reached}
use Rattle.flat_drivers.proofs.drivers.add_wires_processes.Given as goal

abbrev pub invariant-loop-process : goal.invariant-loop-process
invariant-loop-process l = Reached (width_in l.signals) l.initial.drivers l.drivers (λ s i. times_processed (width_in l.signals) s i (wires_in (drop l.process-index l.combs))) (λ s i. times_processed (width_in l.signals) s i (wires_in l.combs))
    (λ s. assigned_by (wires_in (drop l.process-index l.combs)) s) (λ s. assigned_by (wires_in l.combs) s)
