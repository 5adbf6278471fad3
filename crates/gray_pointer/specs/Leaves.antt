-- The first leaf of a count word.
use Rattle.std.specs.Prelude.{◌≡◌, ◌≢◌, ℕ, Option, Some, None}
use Rattle.cell_graph.specs.declared.cell.Cell.TheVariants.{Mux}
use Rattle.cell_graph.specs.declared.cell.CellId.{CellId}
use Rattle.cell_graph.specs.declared.cell.Node.{Node}
use Rattle.cell_graph.specs.Cells.{Cells, cell_at}
use Rattle.cell_graph.specs.Unfolded.{tree_of, IsNodeOf}
use Rattle.cdc_model.specs.Word.{cells, IsCount}

-- the lowest w bits of the cell itself are a count word
abbrev pub CountsItself : Cells → ℕ → ℕ → CellId → Type 0
CountsItself g sig w id = IsCount sig w (cells (tree_of g id) 0 w)

-- bit i of a cell that is a count word and no choice
abbrev pub IsLeaf : Cells → ℕ → ℕ → ℕ → Option Node → Type 0
IsLeaf g sig w i None = ⊥
IsLeaf g sig w i (Some n) = IsNodeOf g n × (n.at ≡ i) × CountsItself g sig w n.cell × ((c x y : CellId) → cell_at g n.cell ≢ Mux c x y)
