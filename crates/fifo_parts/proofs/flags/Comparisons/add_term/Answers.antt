-- The term is that the node has the value.
use Rattle.std.proofs.Common.{sym, subst}
use Rattle.cofactor.proofs.Places.{if_ok}
use Rattle.fifo_nodes.specs.declared.term.Term.{Term}
use Rattle.fifo_nodes.specs.Terms.{IsTermIn, term_of}
use Rattle.fifo_parts.specs.Comparisons.{IsKeptBy}
use Rattle.fifo_parts.proofs.flags.Comparisons.add_term.Goals as goal

pub returns-in-Is-clause-found : goal.returns-in-Is-clause-found
returns-in-Is-clause-found c = if_ok c.add_compared.result
    (λ u h shown inside clock on.
    let net = c.args.shown.net.now in
    let new = c.add_compared.new.self in
    subst (λ (t : Term). IsKeptBy net c.args.shown.domains.now new.by_bit new.by_clock c.args.flag clock (term_of net.graph t)) (sym c.in-Is.is)
    (λ bits all. h shown (subst (IsTermIn net.graph) c.in-Is.is inside) clock on bits all))
    c.add_compared.ensures.found
