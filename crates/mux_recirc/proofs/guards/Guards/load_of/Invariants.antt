-- None of the blindnesses so far is under a ring that holds the source.
use Rattle.std.specs.List.Sorted.{IsSorted}
use Rattle.cdc_base.specs.contracts.bit.BitOrd.TheImpl as bit_order
use Rattle.mux_recirc.specs.contracts.blind.BlindOrd.TheImpl as blind_order
use Rattle.mux_recirc.specs.contracts.parts.PartOrd.TheImpl as part_order
use Rattle.mux_recirc.proofs.Guarding.{NoneServes}
use Rattle.mux_recirc.proofs.guards.Guards.load_of.Given as goal

abbrev pub invariant-loop-blind : goal.invariant-loop-blind
invariant-loop-blind l = IsSorted blind_order.ghosts.cmp l.self.blind.items → IsSorted bit_order.ghosts.cmp l.self.held.constant.items → IsSorted part_order.ghosts.cmp l.self.held.pairs.items
    → NoneServes l.self l.from l.fn.place l.blind-index
