use Rattle.std.proofs.Common.{◌≡◌, ◌++◌, List, map, drop}
use Rattle.cdc_base.specs.declared.signal.ResetPin.{ResetPin}
use Rattle.flat_design.specs.Visiting.{ShowsPins}
use Rattle.reset_nets.specs.Shown.{level_in_signal}
use Rattle.reset_nets.proofs.nets.declared_levels.Given as goal

abbrev pub invariant-loop-signal : goal.invariant-loop-signal
invariant-loop-signal l = (resets : List ResetPin) → ShowsPins l.pins resets → l.levels.items ++ map (level_in_signal resets) (drop l.signal-index l.signals) ≡ map (level_in_signal resets) l.signals
