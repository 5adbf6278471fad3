use Rattle.std.proofs.Common.{◌≡◌, ◌<◌, ℕ, length, Some}
use Rattle.cell_graph.specs.declared.cell.CellId.{CellId}
use Rattle.cell_graph.specs.Unfolded.{IsWellFormed}
use Rattle.cofactor.specs.Cubes.{cube_of}
use Rattle.cofactor.specs.Shown.{place_in, ShowsMasks, ShowsSames, IsComplete}
use Rattle.cofactor.proofs.table.Table.of_cells.Given as goal

abbrev pub invariant-loop-place : goal.invariant-loop-place
invariant-loop-place l = record {
  cells : l.table.cells ≡ l.initial.table.cells;
  counted : length l.table.rows ≡ l.place;
  known : IsWellFormed l.graph → IsComplete l.graph l.initial.table.cells l.fn.count
      → (place : ℕ) (id : CellId) → place < l.place → place_in l.initial.table.cells id ≡ Some place → ShowsMasks l.graph (cube_of l.cube) l.table id;
  same : IsWellFormed l.graph → IsComplete l.graph l.initial.table.cells l.fn.count
      → (place : ℕ) (id : CellId) → place < l.place → place_in l.initial.table.cells id ≡ Some place → ShowsSames l.graph (cube_of l.cube) l.table id;
}
