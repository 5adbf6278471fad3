use Rattle.std.proofs.Common.{◌≡◌, ◌≤◌}
use Rattle.cell_graph.specs.Origin.{origin}
use Rattle.cell_graph.specs.Unfolded.{IsWellFormed, IsNodeOf, tree_of}
use Rattle.cofactor.proofs.nodes.origin.Given as goal

abbrev pub invariant-down : goal.invariant-down
invariant-down l = IsWellFormed l.net.graph → IsNodeOf l.net.graph l.fn.node →
    IsNodeOf l.net.graph l.reached × (l.reached.cell.0 ≤ l.fn.node.cell.0) × (origin (tree_of l.net.graph l.fn.node.cell) l.fn.node.at ≡ origin (tree_of l.net.graph l.reached.cell) l.reached.at)

abbrev pub decreases-down : goal.decreases-down
decreases-down l = l.reached.cell.0
