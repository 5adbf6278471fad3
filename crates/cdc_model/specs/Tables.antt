-- What a table of cofactors shows of a net.
use Rattle.std.specs.Prelude.{◌≡◌, ◌<◌, length, Option, Some, None, List, [], ◌∷◌, ◌++◌, Contains}
use Rattle.cdc_base.specs.declared.bit.Bit.{Bit}
use Rattle.cell_graph.specs.declared.cell.CellId.{CellId}
use Rattle.cell_graph.specs.declared.net.Net.{Net}
use Rattle.cell_graph.specs.declared.net.Reg.{Reg}
use Rattle.cell_graph.specs.Below.{IsBelow}
use Rattle.cell_graph.specs.Reading.{Cube}
use Rattle.cofactor.specs.Shown.{Shown, Shows}
use Rattle.cdc_model.specs.Nets.{next_cell}

-- the table has a row for each cell, which shows what the cube fixes of it
abbrev pub ShowsNet : Net → Cube → Shown → Type 0
ShowsNet net cube t = (id : CellId) → id.0 < length net.graph.cells → Shows net.graph cube t id

-- the cell, where there is one
abbrev pub cell_there : Option CellId → List CellId
cell_there None = []
cell_there (Some c) = c ∷ []

-- the cells of these bits' next values, where they have one
abbrev pub next_cells : List Reg → List Bit → List CellId
next_cells regs [] = []
next_cells regs (x ∷ xs) = cell_there (next_cell regs x.sig) ++ next_cells regs xs

-- of each of these bits the table shows the next value, and the cells on which that stands
abbrev pub ShowsNext : Net → Cube → Shown → List Bit → Type 0
ShowsNext net cube t bits = (x : Bit) (c id : CellId) → Contains bits x → next_cell net.regs x.sig ≡ Some c → IsBelow net.graph (c ∷ []) id → Shows net.graph cube t id
