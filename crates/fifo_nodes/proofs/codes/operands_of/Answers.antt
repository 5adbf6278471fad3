-- The node is an exclusive or, or none.
use Rattle.std.proofs.Common.{◌∙◌, sym, ap, subst, option_map}
use Rattle.cell_graph.specs.Unfolded.{bit_of}
use Rattle.gray_pointer.specs.Words.{IsIn}
use Rattle.gray_pointer.proofs.Wholes.{other_sides, sides_found}
use Rattle.fifo_nodes.proofs.codes.operands_of.Goals as goal

pub returns-in-Xor : goal.returns-in-Xor
returns-in-Xor c = λ plain is.
    let g = c.args.net.now.graph in
    let bit = option_map (bit_of g) in
    sides_found g plain (bit c.args.node) c.in_ok-node.node (ap bit c.in_ok-node.was) (subst (IsIn g) c.in_ok-node.was is) c.in-Xor.a c.in-Xor.b
    (sym c.cell.ensures ∙ c.in-Xor.is)

pub returns-in_default : goal.returns-in_default
returns-in_default c = λ plain is.
    let g = c.args.net.now.graph in
    let bit = option_map (bit_of g) in
    other_sides g plain (bit c.args.node) c.in_ok-node.node (ap bit c.in_ok-node.was) (subst (IsIn g) c.in_ok-node.was is)
    (λ a b e. c.in_default.not-Xor a b (c.cell.ensures ∙ e))
