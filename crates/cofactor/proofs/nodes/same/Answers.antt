use Rattle.std.proofs.Common.{◌∙◌}
use Rattle.cell_graph.specs.Below.{root}
use Rattle.cofactor.proofs.Places.{own-root, root-within}
use Rattle.cofactor.proofs.nodes.same.Goals as goal

pub returns : goal.returns
returns c = λ well is.
    let id = c.args.node.cell in
    c.same.ensures ∙ c.in_ok-table.ensures.same well (root-within c.args.net.now.graph id is.0) id (root (own-root id)) c.args.node.at is.1
