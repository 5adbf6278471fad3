-- Only those to come can be among the others.
use Rattle.std.proofs.Common.{drop}
use Rattle.cell_graph.specs.Cells.{Cells}
use Rattle.gray_pointer.specs.Words.{IsPlain}
use Rattle.fifo_nodes.specs.Terms.{AreTermsIn}
use Rattle.fifo_parts.specs.Words.{HaveCommon}
use Rattle.fifo_parts.proofs.words.has_one_of.Given as goal

abbrev pub invariant-loop-term : goal.invariant-loop-term
invariant-loop-term l = (g : Cells) → IsPlain g → AreTermsIn g l.terms → AreTermsIn g l.others → HaveCommon g l.terms l.others
    → HaveCommon g (drop l.term-index l.terms) l.others
