-- The nodes differ in the one order or in the other.
use Rattle.std.proofs.Common.{◌≡◌, ◌∙◌, sym, refl, subst, inl, inr, true, false, option_map}
use Rattle.cell_graph.specs.Unfolded.{bit_of}
use Rattle.cofactor.proofs.Places.{if_ok}
use Rattle.fifo_nodes.specs.declared.term.Term.{Term}
use Rattle.fifo_nodes.specs.Codes.{code_of, nodes_of, apart_of}
use Rattle.fifo_nodes.specs.Shows.{IsSaid}
use Rattle.fifo_nodes.specs.Terms.{term_of, IsTermIn}
use Rattle.fifo_nodes.proofs.Comparing.{said_in_order, said_in_turn, said_compares}
use Rattle.fifo_nodes.proofs.shows.compares.Goals as goal

pub returns-then-branch : goal.returns-then-branch
returns-then-branch c = λ plain shown code short inside.
    let g = c.args.net.now.graph in
    let k = code_of g c.args.code.now in
    let over = nodes_of g c.args.over.now in
    let apart = apart_of c.args.apart in
    let bit = option_map (bit_of g) in
    let is = subst (IsTermIn g) c.in-Differ.is inside in
    let first = c.in_ok-compares_in_order.ensures plain shown code short is.0 is.1 in (
      λ t. subst (λ (u : Term). IsSaid k over apart (term_of g u)) (sym c.in-Differ.is)
          (said_in_order k over apart (bit c.in-Differ.one) (bit c.in-Differ.another) c.in-Differ.value (first.0 c.if-branch.true)),
      λ h. refl,
    )

pub returns : goal.returns
returns c = if_ok c.compares_in_order-2.result
    (λ t h plain shown code short inside.
    let g = c.args.net.now.graph in
    let k = code_of g c.args.code.now in
    let over = nodes_of g c.args.over.now in
    let apart = apart_of c.args.apart in
    let bit = option_map (bit_of g) in
    let one = bit c.in-Differ.one in
    let another = bit c.in-Differ.another in
    let is = subst (IsTermIn g) c.in-Differ.is inside in
    let first = c.in_ok-compares_in_order.ensures plain shown code short is.0 is.1 in
    let second = h plain shown code short is.1 is.0 in (
      λ r. subst (λ (u : Term). IsSaid k over apart (term_of g u)) (sym c.in-Differ.is)
          (said_in_turn k over apart one another c.in-Differ.value (second.0 r)),
      λ s. elim (said_compares k over apart one another c.in-Differ.value
          (subst (λ (u : Term). IsSaid k over apart (term_of g u)) c.in-Differ.is s)) [
            | inl m ↦ let u : true ≡ false = sym (first.1 m) ∙ c.if-branch.false in cc
            | inr m ↦ second.1 m
          ],
    ))
    c.compares_in_order-2.ensures
