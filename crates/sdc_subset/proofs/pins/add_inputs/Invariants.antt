use Rattle.std.proofs.Common.{◌≡◌, ◌++◌, map, take}
use Rattle.sdc_subset.specs.declared.pins.Meaning.TheVariants.{Input}
use Rattle.sdc_subset.proofs.pins.add_inputs.Given as goal

abbrev pub invariant-loop-port : goal.invariant-loop-port
invariant-loop-port l = l.pins ≡ l.initial.pins ++ map (λ p. record { port = p; meaning = Input l.clock }) (take l.port-index l.ports)
