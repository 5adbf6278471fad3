use Rattle.std.proofs.Common.{◌∙◌}
use Rattle.cell_graph.specs.Below.{root}
use Rattle.cell_graph.specs.Cells.{cell_width}
use Rattle.cell_graph.specs.Unfolded.{tree_of}
use Rattle.cell_graph.specs.Cofactor.{known}
use Rattle.cofactor.specs.Cubes.{cube_of}
use Rattle.cofactor.proofs.Places.{own-root, root-within}
use Rattle.cofactor.proofs.nodes.known.Goals as goal

pub returns : goal.returns
returns c = λ well is.
    let g = c.args.net.now.graph in
    let id = c.args.node.cell in
    c.bit.ensures (known (cube_of c.args.cube.now) (tree_of g id)) (cell_width g id) is.1
    (c.masks.ensures ∙ c.in_ok-table.ensures.known well (root-within g id is.0) id (root (own-root id)))
