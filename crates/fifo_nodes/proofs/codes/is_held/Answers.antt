-- The node that is held there is the node, or none is held there.
use Rattle.std.proofs.Common.{◌≡◌, ◌∙◌, sym, ap, ap₂, Option, Some, None, slice_get}
use Rattle.std.proofs.lemmas.Option.{slice_get-get_or, slice_get_past}
use Rattle.cell_graph.specs.declared.cell.Node.{Node}
use Rattle.fifo_nodes.proofs.CodeBits.{held_bit, bit_held}
use Rattle.fifo_nodes.proofs.codes.is_held.Goals as goal

pub returns-in-Some : goal.returns-in-Some
returns-in-Some c = λ g plain code inside.
    let xs = c.args.code.now.held in
    let found = c.in-Some.ensures.lookup in
    let held = c.in-Some.held.now in
    let there : slice_get xs c.args.at ≡ Some held = ap₂ slice_get (sym c.as_slice.ensures) (sym c.from.ensures)
    ∙ slice_get-get_or c.as_slice.result.now c.from.result held found.3.0 ∙ ap (λ (o : Option Node). Some o) (sym found.1) in (
      λ t. held_bit g xs c.args.at c.args.node (there ∙ ap (λ (o : Option Node). Some o) (c.are_same.ensures.0 t)),
      λ h. c.are_same.ensures.1 (let same : Some held ≡ Some c.args.node = sym there
          ∙ bit_held g plain xs c.args.at c.args.node code.held inside h in cc),
    )

pub returns-in-None : goal.returns-in-None
returns-in-None c = λ g plain code inside.
    let xs = c.args.code.now.held in
    let past : slice_get xs c.args.at ≡ None = ap₂ slice_get (sym c.as_slice.ensures) (sym c.from.ensures)
    ∙ slice_get_past c.as_slice.result.now c.from.result c.in-None.ensures.lookup.3 in
    (λ t. cc, λ h. let there : None ≡ Some c.args.node = sym past ∙ bit_held g plain xs c.args.at c.args.node code.held inside h in cc)
