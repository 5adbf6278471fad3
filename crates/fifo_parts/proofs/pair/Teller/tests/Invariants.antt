-- The tests among the terms so far.
use Rattle.std.proofs.Common.{take}
use Rattle.cdc_model.specs.Nets.{design_of, next_tree}
use Rattle.fifo_laws.specs.Sides.{Side}
use Rattle.fifo_nodes.specs.declared.term.Term.{Term}
use Rattle.fifo_nodes.specs.Terms.{AreTermsIn, term_of}
use Rattle.fifo_parts.specs.Tellers.{IsShown, IsTeller, IsTestBy}
use Rattle.fifo_parts.proofs.Sifted.{AreSifted}
use Rattle.fifo_parts.proofs.pair.Teller.tests.Given as goal

abbrev pub invariant-loop-term : goal.invariant-loop-term
invariant-loop-term l = (near far : Side) → IsShown l.shown.net.now l.shown.table.now → IsTeller l.shown.net.now l.shown.domains.now l.self near far
    → AreTermsIn l.shown.net.now.graph l.terms
    → AreSifted (λ (t : Term). IsTestBy l.self.apart (design_of l.shown.net.now l.shown.domains.now) (next_tree l.shown.net.now) near far
    (term_of l.shown.net.now.graph t))
    (take l.term-index l.terms) l.tests
