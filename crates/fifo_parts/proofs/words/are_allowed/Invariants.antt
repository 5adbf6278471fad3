-- All are allowed where those to come are.
use Rattle.std.proofs.Common.{drop}
use Rattle.std.specs.Prelude.{◌↔◌}
use Rattle.gray_pointer.specs.Words.{IsPlain}
use Rattle.fifo_nodes.specs.Terms.{AreTermsIn}
use Rattle.fifo_parts.specs.Words.{AreAllowed}
use Rattle.fifo_parts.proofs.words.are_allowed.Given as goal

abbrev pub invariant-loop-term : goal.invariant-loop-term
invariant-loop-term l = IsPlain l.net.graph → AreTermsIn l.net.graph l.terms → AreTermsIn l.net.graph l.side.under
    → AreAllowed l.net.graph l.side.reg.count l.side.width l.word l.side.under l.terms
    ↔ AreAllowed l.net.graph l.side.reg.count l.side.width l.word l.side.under (drop l.term-index l.terms)
