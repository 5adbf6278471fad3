-- Each of the terms so far is among the others.
use Rattle.std.proofs.Common.{take, All}
use Rattle.cell_graph.specs.Cells.{Cells}
use Rattle.gray_pointer.specs.Words.{IsPlain}
use Rattle.fifo_nodes.specs.Terms.{AreTermsIn}
use Rattle.fifo_nodes.proofs.Sets.{IsAmong}
use Rattle.fifo_nodes.proofs.term.are_among.Given as goal

abbrev pub invariant-loop-term : goal.invariant-loop-term
invariant-loop-term l = (g : Cells) → IsPlain g → AreTermsIn g l.terms → AreTermsIn g l.others → All (IsAmong g l.others)
    (take l.term-index l.terms)
