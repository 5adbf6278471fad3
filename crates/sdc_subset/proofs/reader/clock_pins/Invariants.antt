use Rattle.std.proofs.Common.{◌≡◌, ◌++◌, drop}
use Rattle.sdc_subset.specs.Meanings.{clock_pins}
use Rattle.sdc_subset.proofs.reader.clock_pins.Given as goal

abbrev pub invariant-loop-pin : goal.invariant-loop-pin
invariant-loop-pin l = clock_pins l.members l.pins ≡ l.found ++ clock_pins l.members (drop l.pin-index l.pins)
