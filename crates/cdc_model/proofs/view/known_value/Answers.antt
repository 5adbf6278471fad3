-- A bit of a mask tells whether the bit is known, and its value.
use Rattle.std.proofs.Common.{◌≡◌, ◌∙◌, sym, ap, true, false, Some}
use Rattle.cell_graph.specs.Cells.{cell_width}
use Rattle.cell_graph.specs.Cofactor.{known}
use Rattle.cell_graph.specs.Tree.{bit_at}
use Rattle.cell_graph.specs.Unfolded.{tree_of}
use Rattle.cofactor.proofs.Shown.{bit-is}
use Rattle.cdc_model.proofs.view.known_value.Goals as goal

pub returns-then-has_bit-clause-cell : goal.returns-then-has_bit-clause-cell
returns-then-has_bit-clause-cell c = λ g cube shown l.
    let t : bit_at c.masks-masks.result.known c.args.node.at ≡ true = sym c.has_bit.ensures ∙ c.if-has_bit.true in
    ap Some c.has_bit-then-has_bit.ensures ∙ (rw t at (bit-is (known cube (tree_of g c.args.node.cell)) (cell_width g c.args.node.cell) c.args.node.at c.masks-masks.result l (c.masks-masks.ensures ∙ shown)))

pub returns-else-has_bit-clause-cell : goal.returns-else-has_bit-clause-cell
returns-else-has_bit-clause-cell c = λ g cube shown l.
    let t : bit_at c.masks-masks.result.known c.args.node.at ≡ false = sym c.has_bit.ensures ∙ c.if-has_bit.false in
    rw t at (bit-is (known cube (tree_of g c.args.node.cell)) (cell_width g c.args.node.cell) c.args.node.at c.masks-masks.result l (c.masks-masks.ensures ∙ shown))

pub returns-then-has_bit-clause-net : goal.returns-then-has_bit-clause-net
returns-then-has_bit-clause-net c = λ net cube shown is.
    returns-then-has_bit-clause-cell c net.graph cube (shown c.args.node.cell is.0).masks is.1

pub returns-else-has_bit-clause-net : goal.returns-else-has_bit-clause-net
returns-else-has_bit-clause-net c = λ net cube shown is.
    returns-else-has_bit-clause-cell c net.graph cube (shown c.args.node.cell is.0).masks is.1
