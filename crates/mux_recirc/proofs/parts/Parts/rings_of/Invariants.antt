-- All rings are those that are there and those of the bits to come.
use Rattle.std.proofs.Common.{◌≡◌, ◌++◌, drop}
use Rattle.std.specs.List.Sorted.{IsSorted}
use Rattle.mux_recirc.specs.contracts.parts.PartOrd.TheImpl as order
use Rattle.mux_recirc.specs.Parts.{rings_among}
use Rattle.mux_recirc.proofs.parts.Parts.rings_of.Given as goal

abbrev pub invariant-loop-bit : goal.invariant-loop-bit
invariant-loop-bit l = IsSorted order.ghosts.cmp l.self.entries.items → rings_among l.self.entries.items l.bits ≡ l.rings.items ++ rings_among l.self.entries.items (drop l.bit-index l.bits)
