-- The node shows it at the other value.
use Rattle.std.proofs.Common.{sym, refl, subst, option_map}
use Rattle.cell_graph.specs.Unfolded.{bit_of}
use Rattle.cofactor.proofs.Places.{if_ok}
use Rattle.fifo_terms.specs.Shows.{IsTest}
use Rattle.fifo_nodes.specs.declared.term.Term.{Term}
use Rattle.fifo_nodes.specs.Codes.{code_of, nodes_of, apart_of}
use Rattle.fifo_nodes.specs.Terms.{term_of, IsTermIn}
use Rattle.fifo_nodes.proofs.Comparing.{test_shows}
use Rattle.fifo_nodes.proofs.shows.is_test.Goals as goal

pub returns-in-Is : goal.returns-in-Is
returns-in-Is c = if_ok c.shows.result
    (λ t h plain shown code short inside.
    let g = c.args.net.now.graph in
    let k = code_of g c.args.code.now in
    let over = nodes_of g c.args.over.now in
    let apart = apart_of c.args.apart in
    let n = option_map (bit_of g) c.in-Is.node in
    let all = h plain shown code short (subst (IsTermIn g) c.in-Is.is inside) in (
      λ r. subst (λ (u : Term). IsTest k over apart (term_of g u)) (sym c.in-Is.is) (n, c.in-Is.value, refl, all.0 r),
      λ s. all.1 (test_shows k over apart n c.in-Is.value (subst (λ (u : Term). IsTest k over apart (term_of g u)) c.in-Is.is s)),
    ))
    c.shows.ensures
