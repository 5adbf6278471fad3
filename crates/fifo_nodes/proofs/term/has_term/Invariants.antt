-- None of the terms so far is one with it.
use Rattle.std.proofs.Common.{take, All}
use Rattle.cell_graph.specs.Cells.{Cells}
use Rattle.gray_pointer.specs.Words.{IsPlain}
use Rattle.fifo_nodes.specs.Terms.{AreTermsIn, IsTermIn}
use Rattle.fifo_nodes.proofs.Sets.{IsOther}
use Rattle.fifo_nodes.proofs.term.has_term.Given as goal

abbrev pub invariant-loop-other : goal.invariant-loop-other
invariant-loop-other l = (g : Cells) → IsPlain g → AreTermsIn g l.terms → IsTermIn g l.term → All (IsOther g l.term) (take l.other-index l.terms)
