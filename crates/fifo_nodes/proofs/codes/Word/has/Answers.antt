-- A bit of a cell is one node.
use Rattle.std.proofs.Common.{◌∙◌, sym, ap, subst, option_map}
use Rattle.cell_graph.specs.Unfolded.{bit_of}
use Rattle.fifo_nodes.specs.Codes.{IsWordIn, word_bit}
use Rattle.fifo_nodes.proofs.CodeBits.{cell_bit}
use Rattle.fifo_nodes.proofs.codes.Word.has.Goals as goal

pub returns-in-Cell : goal.returns-in-Cell
returns-in-Cell c = λ plain word inside.
    let g = c.args.net.now.graph in
    let l = subst (λ w. IsWordIn g w) c.in-Cell.is word in
    let e = ap (λ w. word_bit g w c.args.at) c.in-Cell.is in (
      λ t. ap (option_map (bit_of g)) (c.are_same.ensures.0 t) ∙ sym e,
      λ h. c.are_same.ensures.1 (cell_bit g plain c.in-Cell.cell c.args.at l c.args.node inside (h ∙ e)),
    )
