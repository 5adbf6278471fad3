-- None of the rings so far joins the groups.
use Rattle.std.specs.List.Sorted.{IsSorted}
use Rattle.mux_recirc.specs.contracts.parts.PartOrd.TheImpl as part_order
use Rattle.mux_recirc.proofs.Joining.{NoneJoins}
use Rattle.mux_recirc.proofs.guards.Guards.first_pair.Given as goal

abbrev pub invariant-loop-part : goal.invariant-loop-part
invariant-loop-part l = IsSorted part_order.ghosts.cmp l.self.held.pairs.items → NoneJoins l.self.held.pairs.items l.self.sides.items l.fn.bit l.sides l.part-index
