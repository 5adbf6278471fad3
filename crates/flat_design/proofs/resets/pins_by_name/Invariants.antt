use Rattle.flat_design.proofs.Pins.{PinsSoFar}
use Rattle.flat_design.proofs.resets.pins_by_name.Given as goal

abbrev pub invariant-loop-number : goal.invariant-loop-number
invariant-loop-number l = PinsSoFar l.resets l.number l.pins
