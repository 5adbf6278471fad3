-- The groups of the bits on which cells stand.
use Rattle.std.specs.Prelude.{◌≡◌, ℕ, ◌<◌, Option, List, length}
use Rattle.cdc_base.specs.declared.bit.Bit.{Bit}
use Rattle.cell_graph.specs.declared.cell.CellId.{CellId}
use Rattle.cell_graph.specs.declared.net.Net.{Net}
use Rattle.domains.specs.declared.Domains.{Domains}
use Rattle.domains.specs.Assignment.{group_of}
use Rattle.cdc_model.specs.declared.below.Marks.{Marks}
use Rattle.cdc_model.specs.Marked.{mark_of, ShowsMarks}

-- the groups are marks of which none is left out below a cell
abbrev pub ShowsGroups : Net → Domains → List Marks → Type 0
ShowsGroups net domains below = (groups : List (Option ℕ)) × ((b : Bit) → mark_of groups b.sig ≡ group_of domains b)
    × ((id : CellId) → id.0 < length net.graph.cells → ShowsMarks net.graph groups below id)
