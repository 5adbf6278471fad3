use Rattle.std.proofs.Common.{◌≡◌, ◌+◌, ◌<◌, ℕ, length, is_some, unwrap_or, slice_get, Some}
use Rattle.cell_graph.specs.declared.cell.CellId.{CellId}
use Rattle.cell_graph.specs.Cells.{cell_at, cell_width}
use Rattle.cell_graph.specs.Below.{IsOperand}
use Rattle.cell_graph.specs.Reading.{Cube}
use Rattle.cell_graph.specs.Tree.{number}
use Rattle.cell_graph.specs.Unfolded.{IsWellFormed, tree_of}
use Rattle.cell_graph.specs.Cofactor.{known, same}
use Rattle.cofactor.specs.Cubes.{bit}
use Rattle.cofactor.specs.Masks.{masks_of}
use Rattle.cofactor.specs.Shown.{ShowsMasks, ShowsSames, KeepBits}
use Rattle.cofactor.proofs.table.Table.push_sames.Given as goal

abbrev pub invariant-loop-at : goal.invariant-loop-at
invariant-loop-at l = record {
  cells : l.self.cells ≡ l.initial.self.cells;
  rows : l.self.rows ≡ l.initial.self.rows;
  kept : KeepBits l.initial.self.sames l.self.sames;
  counted : length l.self.sames ≡ length l.initial.self.sames + l.at;
  told : (cube : Cube) → IsWellFormed l.graph → l.id.0 < length l.graph.cells
      → ((a : CellId) → IsOperand (cell_at l.graph l.id) a → ShowsMasks l.graph cube l.initial.self a)
      → ((a : CellId) → IsOperand (cell_at l.graph l.id) a → ShowsSames l.graph cube l.initial.self a)
      → l.masks ≡ masks_of (known cube (tree_of l.graph l.id)) (cell_width l.graph l.id)
      → (l.found ≡ number (λ i. is_some (same cube (tree_of l.graph l.id) i)) l.at)
      × ((i : ℕ) → i < l.at → slice_get l.self.sames (length l.initial.self.sames + i) ≡ Some (unwrap_or (same cube (tree_of l.graph l.id) i) (bit 0 0)));
}
