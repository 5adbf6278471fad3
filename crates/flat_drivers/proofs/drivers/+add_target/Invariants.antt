use Rattle.std.proofs.Common.{map, drop}
use Rattle.flat_meaning.specs.Design.{width_in, all_times_in}
use Rattle.flat_form.specs.View.{target_of, targets_of}
use Rattle.flat_drivers.proofs.Counted.{Reached}
use Rattle.flat_drivers.proofs.drivers.+add_target.Given as goal

abbrev pub invariant-add_targets-loop-target : goal.invariant-add_targets-loop-target
invariant-add_targets-loop-target l = Reached (width_in l.signals) l.initial.drivers l.drivers (λ s i. all_times_in (width_in l.signals) s i (targets_of (map target_of (drop l.target-index l.targets))))
    (λ s i. all_times_in (width_in l.signals) s i (targets_of (map target_of l.targets))) (λ s. 0) (λ s. 0)
