-- The terms of the conditions so far are asked for.
use Rattle.std.proofs.Common.{length, take}
use Rattle.gray_pointer.specs.Words.{IsPlain}
use Rattle.fifo_nodes.specs.Searches.{Covers, nothing}
use Rattle.fifo_nodes.specs.Takes.{AreAskedIn, condition_terms}
use Rattle.fifo_nodes.proofs.takes.terms_of.Given as goal

abbrev pub invariant-loop-condition : goal.invariant-loop-condition
invariant-loop-condition l = IsPlain l.net.graph → AreAskedIn l.net.graph l.conditions
    → Covers l.net.graph (length l.net.graph.cells) (condition_terms l.net.graph (take l.condition-index l.conditions)) nothing l.search
