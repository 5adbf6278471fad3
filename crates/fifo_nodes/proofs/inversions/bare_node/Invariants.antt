-- The node is the one that is reached, inverted as often as was met.
use Rattle.std.proofs.Common.{◌≡◌, []}
use Rattle.cell_graph.specs.Unfolded.{IsNodeOf, tree_of}
use Rattle.cdc_model.specs.Tables.{ShowsNet}
use Rattle.fifo_terms.specs.Terms.{bare, inverted_by}
use Rattle.gray_pointer.specs.Words.{IsPlain}
use Rattle.fifo_nodes.proofs.inversions.bare_node.Given as goal

abbrev pub invariant-down : goal.invariant-down
invariant-down l = IsPlain l.net.graph → ShowsNet l.net [] l.table → IsNodeOf l.net.graph l.fn.node →
    IsNodeOf l.net.graph l.below.node × (bare (tree_of l.net.graph l.fn.node.cell) l.fn.node.at ≡ inverted_by l.below.inverted (bare (tree_of l.net.graph l.below.node.cell) l.below.node.at))

abbrev pub decreases-down : goal.decreases-down
decreases-down l = l.below.node.cell.0
