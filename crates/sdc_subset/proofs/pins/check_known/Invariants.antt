use Rattle.std.proofs.Common.{◌≡◌, drop}
use Rattle.sdc_subset.specs.Pins.{unknown_clock}
use Rattle.sdc_subset.proofs.pins.check_known.Given as goal

abbrev pub invariant-loop-pin : goal.invariant-loop-pin
invariant-loop-pin l = unknown_clock l.known l.mentions ≡ unknown_clock l.known (drop l.pin-index l.mentions)
