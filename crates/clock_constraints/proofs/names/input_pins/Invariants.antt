use Rattle.std.proofs.Common.{◌≡◌, drop, ◌++◌, Ok}
use Rattle.clock_constraints.specs.Refusals.{◌>>=◌}
use Rattle.clock_constraints.specs.Names.{input_pins}
use Rattle.clock_constraints.proofs.names.input_pins.Given as goal

abbrev pub invariant-loop-input : goal.invariant-loop-input
invariant-loop-input l = input_pins l.clocks l.inputs
    ≡ (input_pins l.clocks (drop l.input-index l.inputs) >>= (λ rest. Ok (l.pins ++ rest)))
