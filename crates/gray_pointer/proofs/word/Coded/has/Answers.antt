-- The origins are equal where the bits are, and the cell is the signal where its tree is.
use Rattle.std.proofs.Common.{◌∙◌, sym, ap, subst, option_map}
use Rattle.cell_graph.specs.Unfolded.{bit_of}
use Rattle.gray_pointer.specs.Words.{HasCoded, IsIn, coded_bit}
use Rattle.gray_pointer.proofs.Wholes.{word_node, in_graph, same_origins, signal_bit, bit_signal}
use Rattle.gray_pointer.proofs.word.Coded.has.Goals as goal

pub returns-in-Cell : goal.returns-in-Cell
returns-in-Cell c = λ w plain coded lt inside.
    let g = c.args.net.now.graph in
    let has = subst (λ word. HasCoded g word w) c.in-Cell.is coded in
    let node = word_node g c.in-Cell.cell w c.args.at has lt in
    let exact = ap (λ word. coded_bit g word w c.args.at) c.in-Cell.is ∙ c.origin.ensures.exact plain.well node in (
      λ t. exact ∙ ap (option_map (bit_of g)) (c.are_same.ensures.0 t),
      λ e. c.are_same.ensures.1 (same_origins g plain c.origin.result c.args.bit (in_graph g c.origin.result (λ n o. (c.origin.ensures.within plain.well node n o).0)) inside (sym exact ∙ e)),
    )

pub returns-then-node-at : goal.returns-then-node-at
returns-then-node-at c = λ w plain coded lt inside.
    let g = c.args.net.now.graph in
    let wide = subst (λ word. HasCoded g word w) c.in-Own.is coded in
    let node = c.in-Some.node in
    let is = subst (IsIn g) c.in-Some.is inside in
    let own = ap (λ word. coded_bit g word w c.args.at) c.in-Own.is in
    let bit = ap (option_map (bit_of g)) c.in-Some.is in (
      λ t. own ∙ signal_bit g plain node is c.in-Own.sig w wide c.args.at c.if-node-at.true (c.is_signal.ensures.0 t) ∙ sym bit,
      λ e. c.is_signal.ensures.1 (bit_signal g plain node is c.in-Own.sig w c.args.at (sym own ∙ e ∙ bit)),
    )
