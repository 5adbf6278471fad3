use Rattle.std.proofs.Common.{◌≡◌, ◌++◌, drop}
use Rattle.sdc_subset.specs.Meanings.{reset_pins}
use Rattle.sdc_subset.proofs.reader.reset_pins.Given as goal

abbrev pub invariant-loop-pin : goal.invariant-loop-pin
invariant-loop-pin l = reset_pins l.pins ≡ l.found ++ reset_pins (drop l.pin-index l.pins)
