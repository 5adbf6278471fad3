use Rattle.std.proofs.Common.{◌≡◌, ◌++◌, drop, map}
use Rattle.sdc_subset.specs.Pins.{clock_names}
use Rattle.sdc_subset.proofs.pins.clock_names.Given as goal

abbrev pub invariant-loop-pin : goal.invariant-loop-pin
invariant-loop-pin l = clock_names l.pins ≡ map (λ n. n.now) l.names.items ++ clock_names (drop l.pin-index l.pins)
