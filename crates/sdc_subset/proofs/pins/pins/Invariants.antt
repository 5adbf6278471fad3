use Rattle.std.proofs.Common.{◌≡◌, drop, map, []}
use Rattle.sdc_subset.specs.Pins.{pins_from, clock_names}
use Rattle.sdc_subset.proofs.pins.pins.Given as goal

abbrev pub invariant-loop-pin : goal.invariant-loop-pin
invariant-loop-pin l = record {
  so_far : pins_from [] l.mentions ≡ pins_from l.pins (drop l.pin-index l.mentions);
  same_ports : l.ports ≡ map (λ p. p.port) l.pins;
  same_names : l.called ≡ clock_names l.pins;
}
