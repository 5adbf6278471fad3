-- What the first of the terms compares.
use Rattle.std.proofs.Common.{◌≡◌, ◌∙◌, sym, subst, inl, option_map, slice_get, Some}
use Rattle.cofactor.proofs.Places.{if_ok}
use Rattle.cell_graph.specs.Unfolded.{bit_of}
use Rattle.cdc_model.proofs.Justify.{slice_in}
use Rattle.fifo_terms.specs.Shows.{node_terms}
use Rattle.fifo_parts.proofs.Comparing.{compares_one}
use Rattle.fifo_parts.proofs.Tests.{plain_net}
use Rattle.fifo_parts.proofs.flags.Comparisons.add_compared.Goals as goal

pub returns-in-Some-clause-found : goal.returns-in-Some-clause-found
returns-in-Some-clause-found c = if_ok c.add_nodes.result
    (λ u h shown inside clock on bits all.
    let net = c.args.shown.net.now in
    let plain = plain_net net c.args.shown.table.now shown in
    let are = c.in_ok-compared.ensures plain shown.shows inside in
    let first = slice_in c.in_ok-compared.compared 0 c.in-Some.term
    (subst (λ ts. slice_get ts 0 ≡ Some c.in-Some.term) c.as_slice.ensures (sym c.first_of.ensures ∙ c.in-Some.is)) in
    let k = compares_one net c.args.shown.domains.now plain
    (node_terms (option_map (bit_of net.graph) c.args.node) c.args.value) bits all c.in_ok-compared.compared are c.in-Some.term first in
    inl (k.0, k.1, h k.0 k.2))
    c.add_nodes.ensures.added
