-- Graphs that grow.
use Rattle.std.specs.Prelude.{◌≡◌, ℕ, ◌<◌, length}
use Rattle.cell_graph.specs.declared.cell.CellId.{CellId}
use Rattle.cell_graph.specs.Cells.{Cells}
use Rattle.cell_graph.specs.Nets.{IsWordOf}
use Rattle.cell_graph.specs.Unfolded.{tree_of}

-- the later graph has the earlier one's signals, and its cells at their places, as wide and with the same trees
pub record Grows (g h : Cells) : Type 0 where
  pub signals : h.signals ≡ g.signals
  pub words : (id : CellId) (w : ℕ) → IsWordOf g id w → IsWordOf h id w
  pub trees : (id : CellId) → id.0 < length g.cells → tree_of h id ≡ tree_of g id
