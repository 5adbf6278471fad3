-- The origin is an exclusive or, or the bit is none.
use Rattle.std.proofs.Common.{◌∙◌, sym, ap, option_map}
use Rattle.cell_graph.specs.Origin.{origin}
use Rattle.cell_graph.specs.Unfolded.{bit_of, tree_of}
use Rattle.gray_pointer.proofs.Wholes.{other_sides, sides_found}
use Rattle.gray_pointer.proofs.word.sides_of.Goals as goal

pub returns-in-Xor : goal.returns-in-Xor
returns-in-Xor c = λ plain is.
    let g = c.args.net.now.graph in
    let bit = c.in_ok-bit.bit in
    sides_found g plain (origin (tree_of g c.args.node.cell) c.args.node.at) bit (c.origin.ensures.exact plain.well is ∙ ap (option_map (bit_of g)) c.in_ok-bit.was)
    (c.origin.ensures.within plain.well is bit c.in_ok-bit.was).0 c.in-Xor.a c.in-Xor.b (sym c.cell.ensures ∙ c.in-Xor.is)

pub returns-in_default : goal.returns-in_default
returns-in_default c = λ plain is.
    let g = c.args.net.now.graph in
    let bit = c.in_ok-bit.bit in
    other_sides g plain (origin (tree_of g c.args.node.cell) c.args.node.at) bit (c.origin.ensures.exact plain.well is ∙ ap (option_map (bit_of g)) c.in_ok-bit.was)
    (c.origin.ensures.within plain.well is bit c.in_ok-bit.was).0 (λ a b e. c.in_default.not-Xor a b (c.cell.ensures ∙ e))
