-- The origins so far are found.
use Rattle.std.proofs.Common.{◌<◌, ◌≤◌, length}
use Rattle.cell_graph.specs.Cells.{cell_width}
use Rattle.cell_graph.specs.Unfolded.{IsWellFormed, tree_of}
use Rattle.fifo_parts.proofs.CodeNodes.{AreOriginsSoFar}
use Rattle.fifo_parts.proofs.side.origins_of.Given as goal

abbrev pub invariant-loop-at : goal.invariant-loop-at
invariant-loop-at l = IsWellFormed l.net.graph → l.cell.0 < length l.net.graph.cells → l.width ≤ cell_width l.net.graph l.cell
    → AreOriginsSoFar l.net.graph (tree_of l.net.graph l.cell) l.width l.at l.found
