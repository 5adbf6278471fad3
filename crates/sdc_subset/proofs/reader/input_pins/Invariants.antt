use Rattle.std.proofs.Common.{◌≡◌, ◌++◌, drop, map}
use Rattle.sdc_subset.specs.Meanings.{input_pins}
use Rattle.sdc_subset.proofs.reader.input_pins.Given as goal

abbrev pub invariant-loop-pin : goal.invariant-loop-pin
invariant-loop-pin l = input_pins (map (λ n. n.now) l.names) l.pins ≡ l.found ++ input_pins (map (λ n. n.now) l.names) (drop l.pin-index l.pins)
