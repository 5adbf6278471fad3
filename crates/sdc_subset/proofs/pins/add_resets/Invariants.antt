use Rattle.std.proofs.Common.{◌≡◌, ◌++◌, map, take}
use Rattle.sdc_subset.specs.declared.pins.Meaning.TheVariants.{Reset}
use Rattle.sdc_subset.proofs.pins.add_resets.Given as goal

abbrev pub invariant-loop-port : goal.invariant-loop-port
invariant-loop-port l = l.pins ≡ l.initial.pins ++ map (λ p. record { port = p; meaning = Reset l.high }) (take l.port-index l.ports)
