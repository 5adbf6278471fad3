use Rattle.std.proofs.Common.{drop}
use Rattle.flat_meaning.specs.Design.{width_in, times_assigned}
use Rattle.flat_drivers.specs.Driving.{assigned_in}
use Rattle.flat_drivers.proofs.Counted.{Reached}
use Rattle.flat_drivers.proofs.drivers.add_assigns.Given as goal

abbrev pub invariant-loop-assign : goal.invariant-loop-assign
invariant-loop-assign l = Reached (width_in l.signals) l.initial.drivers l.drivers (λ s i. times_assigned (width_in l.signals) s i (assigned_in (drop l.assign-index l.assigns))) (λ s i. times_assigned (width_in l.signals) s i (assigned_in l.assigns)) (λ s. 0) (λ s. 0)
