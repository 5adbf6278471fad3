-- The search for one node's terms.
use Rattle.std.proofs.Common.{sym, subst, length}
use Rattle.fifo_nodes.specs.Searches.{Covers}
use Rattle.fifo_nodes.specs.Terms.{terms_in, AreTerms}
use Rattle.fifo_nodes.proofs.Asking.{in_within}
use Rattle.fifo_nodes.proofs.Searches.{search_starts}
use Rattle.fifo_nodes.proofs.walk.terms.Goals as goal

pub returns : goal.returns
returns c = λ plain shown is.
    let g = c.args.net.now.graph in
    let ts = terms_in g c.args.node c.args.value in
    let n = length g.cells in
    let covers = subst (λ s. Covers g n ts s c.ask.new.self) c.new-search.ensures (c.in_ok-ask.ensures n plain (in_within g c.args.node is)) in
    subst (AreTerms g ts) (sym c.into_terms.ensures) (c.in_ok-found_terms.ensures ts plain shown (search_starts g ts n c.ask.new.self covers))
