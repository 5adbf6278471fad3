use Rattle.std.proofs.Common.{◌≡◌, ◌++◌, drop, map}
use Rattle.cdc_base.specs.declared.signal.Signal.{Signal}
use Rattle.driver_trees.proofs.present.widths.Given as goal

abbrev pub invariant-loop-signal : goal.invariant-loop-signal
invariant-loop-signal l = l.widths.items ++ map (λ (x : Signal). x.width) (drop l.signal-index l.signals) ≡ map (λ (x : Signal). x.width) l.signals
