-- What stays in a run.
use Rattle.std.specs.Prelude.{◌≡◌, ℕ, ◌<◌, Option, Some, None, option_and_then, List, [], ◌∷◌, set, slice_get, unwrap_or, length}
use Rattle.cdc_base.specs.declared.bit.Bit.{Bit}
use Rattle.cell_graph.specs.declared.cell.CellId.{CellId}
use Rattle.cell_graph.specs.declared.net.Net.{Net}
use Rattle.cell_graph.specs.declared.net.Reg.{Reg}
use Rattle.cell_graph.specs.Cells.{cell_width}
use Rattle.cell_graph.specs.Cofactor.{same}
use Rattle.cell_graph.specs.Unfolded.{tree_of}
use Rattle.cofactor.specs.Shown.{Shown, same_at}

-- the cells of the registers' next values, by their signals
abbrev pub take_cells : List Reg → List (Option CellId) → List (Option CellId)
take_cells [] cells = cells
take_cells (r ∷ rs) cells = take_cells rs (set cells r.sig (Some r.next))

abbrev pub cell_in : List (Option CellId) → ℕ → Option CellId
cell_in cells sig = unwrap_or (slice_get cells sig) None

-- the bit that a table shows a register bit to copy
abbrev pub copied_in : List (Option CellId) → Shown → Bit → Option Bit
copied_in cells copies x = option_and_then (λ (c : CellId). same_at copies c x.at) (cell_in cells x.sig)

-- the table shows which state bits the bits of cells equal
abbrev pub ShowsCopies : Net → Shown → Type 0
ShowsCopies net copies = (id : CellId) → id.0 < length net.graph.cells → (i : ℕ) → i < cell_width net.graph id
    → same_at copies id i ≡ same [] (tree_of net.graph id) i
