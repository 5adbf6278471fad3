use Rattle.std.proofs.Common.{◌≡◌, ◌++◌, drop}
use Rattle.reset_nets.proofs.add_pins.Given as goal

abbrev pub invariant-loop-pin : goal.invariant-loop-pin
invariant-loop-pin l = l.all.items ++ drop l.pin-index l.pins ≡ l.initial.all.items ++ l.pins
