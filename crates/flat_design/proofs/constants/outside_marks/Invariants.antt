use Rattle.std.proofs.Common.{◌≡◌, ◌++◌, map, drop}
use Rattle.cdc_base.specs.declared.signal.Signal.{Signal}
use Rattle.flat_unfolding.specs.Drivers.{is_from_outside}
use Rattle.flat_design.proofs.constants.outside_marks.Given as goal

abbrev pub invariant-loop-signal : goal.invariant-loop-signal
invariant-loop-signal l = map (λ (y : Signal). is_from_outside y.kind) l.signals ≡ l.marks.items ++ map (λ (y : Signal). is_from_outside y.kind)
    (drop l.signal-index l.signals)
