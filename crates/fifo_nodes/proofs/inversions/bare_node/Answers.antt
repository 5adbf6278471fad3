-- The origin is zero, or bare, or is seen as an operand.
use Rattle.std.proofs.Common.{◌∙◌, sym, ap, refl, subst, arith, option_map, Some, None}
use Rattle.cell_graph.specs.Unfolded.{bit_of, tree_of}
use Rattle.fifo_terms.specs.Terms.{bare, inverted_by}
use Rattle.fifo_nodes.specs.Nodes.{IsOwnOrZero, IsSeenAs}
use Rattle.fifo_nodes.proofs.BareNodes.{bare_reached, found_bare, inverted_twice}
use Rattle.fifo_nodes.proofs.Choices.{own_origin}
use Rattle.fifo_nodes.proofs.inversions.bare_node.Goals as goal

pub down-init : goal.down-init
down-init c = λ plain shown is. (is, refl)

pub returns-in_default : goal.returns-in_default
returns-in_default c = λ plain shown is.
    let g = c.args.net.now.graph in
    let start = bare (tree_of g c.args.node.cell) c.args.node.at in
    let here = c.down.invariant plain shown is in
    let exact = c.origin.ensures.exact plain.well here.0 ∙ ap (option_map (bit_of g)) c.in_default.is in
    found_bare g start c.down.below.inverted None (bare_reached g start c.down.below None here.1 exact) tt

pub returns-in_default-operand_of : goal.returns-in_default-operand_of
returns-in_default-operand_of c = λ plain shown is.
    let g = c.args.net.now.graph in
    let start = bare (tree_of g c.args.node.cell) c.args.node.at in
    let here = c.down.invariant plain shown is in
    let bit = c.in-Some.bit in
    let exact = c.origin.ensures.exact plain.well here.0 in
    let own = subst (IsOwnOrZero g) c.in-Some.is
    (own_origin g c.down.below.node c.origin.result exact (c.origin.ensures.within plain.well here.0)) in
    let seen = subst (IsSeenAs g bit) c.in_default-operand_of.is (c.operand_of.ensures plain shown own) in
    let reached = bare_reached g start c.down.below (Some bit) here.1 (exact ∙ ap (option_map (bit_of g)) c.in-Some.is) in
    found_bare g start c.down.below.inverted (Some bit) (reached ∙ ap (inverted_by c.down.below.inverted) seen) own.0

pub returns-then-operand-below : goal.returns-then-operand-below
returns-then-operand-below c = λ plain shown is.
    let g = c.args.net.now.graph in
    let here = c.down.invariant plain shown is in
    let bit = c.in-Some.bit in
    let exact = c.origin.ensures.exact plain.well here.0 in
    let own = subst (IsOwnOrZero g) c.in-Some.is
    (own_origin g c.down.below.node c.origin.result exact (c.origin.ensures.within plain.well here.0)) in
    let seen = subst (IsSeenAs g bit) c.in-Some-operand_of.is (c.operand_of.ensures plain shown own) in
    let lower = seen.1.1 in
    let up = (c.origin.ensures.within plain.well here.0 bit c.in-Some.is).1 in
    absurd (omega arith)

pub down-preserved : goal.down-preserved
down-preserved c = λ plain shown is.
    let g = c.args.net.now.graph in
    let start = bare (tree_of g c.args.node.cell) c.args.node.at in
    let here = c.down.invariant plain shown is in
    let bit = c.in-Some.bit in
    let operand = c.in-Some-operand_of.operand in
    let exact = c.origin.ensures.exact plain.well here.0 in
    let own = subst (IsOwnOrZero g) c.in-Some.is
    (own_origin g c.down.below.node c.origin.result exact (c.origin.ensures.within plain.well here.0)) in
    let seen = subst (IsSeenAs g bit) c.in-Some-operand_of.is (c.operand_of.ensures plain shown own) in
    let reached = bare_reached g start c.down.below (Some bit) here.1 (exact ∙ ap (option_map (bit_of g)) c.in-Some.is) in
    let rest = bare (tree_of g operand.node.cell) operand.node.at in (
      seen.1.0,
      reached ∙ ap (inverted_by c.down.below.inverted) seen.0
          ∙ inverted_twice c.down.below.inverted operand.inverted rest ∙ ap (λ v. inverted_by v rest) (sym c.exclusive_or.ensures),
    )
