-- All parts are those that are there and those of the bits to come.
use Rattle.std.proofs.Common.{◌≡◌, ◌++◌, drop}
use Rattle.mux_recirc.specs.Parts.{parts_in}
use Rattle.mux_recirc.proofs.parts.add_parts.Given as goal

abbrev pub invariant-loop-bit : goal.invariant-loop-bit
invariant-loop-bit l = l.initial.entries.items ++ parts_in l.ring l.bits ≡ l.entries.items ++ parts_in l.ring (drop l.bit-index l.bits)
