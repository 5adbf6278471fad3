use Rattle.std.proofs.Common.{◌≡◌, ℕ, ◌<◌, Some, slice_get}
use Rattle.std.specs.List.{Contains}
use Rattle.cell_graph.specs.declared.cell.CellId.{CellId}
use Rattle.cell_graph.specs.Cells.{cell_at}
use Rattle.cell_graph.specs.Below.{IsOperand, IsBelow}
use Rattle.cell_graph.proofs.graph.Graph.cells_below.Given as goal

abbrev pub invariant-loop-place : goal.invariant-loop-place
invariant-loop-place l = record {
  roots : (c : CellId) → Contains l.roots c → Contains l.cone c;
  closed : (k : ℕ) (c x : CellId) → k < l.place → slice_get l.cone k ≡ Some c → IsOperand (cell_at l.self c) x → Contains l.cone x;
  below : (c : CellId) → Contains l.cone c → IsBelow l.self l.roots c;
}
