-- Graphs that keep equal cells once.
use Rattle.std.specs.Prelude.{◌≡◌, ℕ, Some, slice_get}
use Rattle.cell_graph.specs.declared.cell.Cell.{Cell}
use Rattle.cell_graph.specs.Cells.{Cells}

-- no two places hold equal cells
abbrev pub IsShared : Cells → Type 0
IsShared g = (m n : ℕ) (c : Cell) → slice_get g.cells m ≡ Some c → slice_get g.cells n ≡ Some c → m ≡ n
