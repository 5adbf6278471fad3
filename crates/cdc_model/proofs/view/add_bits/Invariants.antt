-- What was there and all bits are what is there and the bits to come.
use Rattle.std.proofs.Common.{◌≡◌, ◌++◌, ◌-◌}
use Rattle.cdc_model.specs.Design.{bits_from}
use Rattle.cdc_model.specs.Nets.{bit_count}
use Rattle.cdc_model.proofs.view.add_bits.Given as goal

abbrev pub invariant-loop-at : goal.invariant-loop-at
invariant-loop-at l = l.initial.bits ++ bits_from l.sig 0 (bit_count l.net.graph.signals l.sig) ≡ l.bits ++ bits_from l.sig l.at (l.at-end - l.at)
