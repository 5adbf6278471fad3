-- The marks of the signals on which cells stand.
use Rattle.std.specs.Prelude.{◌≡◌, ℕ, true, Option, Some, None, List, slice_get, unwrap_or}
use Rattle.cell_graph.specs.declared.cell.CellId.{CellId}
use Rattle.cell_graph.specs.Cells.{Cells}
use Rattle.cell_graph.specs.Stands.{stands_in}
use Rattle.cell_graph.specs.Unfolded.{tree_of}
use Rattle.cdc_model.specs.declared.below.Marks.{Marks}
use Rattle.cdc_model.specs.declared.below.Marks.TheVariants.{Nothing, One, Several}

-- the mark, if it is one, is among these
abbrev pub Admits : Marks → Option ℕ → Type 0
Admits marks None = Unit {0}
Admits Nothing (Some m) = ⊥
Admits (One n) (Some m) = m ≡ n
Admits Several (Some m) = Unit {0}

-- the mark of a signal, if it has one
abbrev pub mark_of : List (Option ℕ) → ℕ → Option ℕ
mark_of marks sig = unwrap_or (slice_get marks sig) None

-- the marks that are kept of a cell
abbrev pub marks_at : List Marks → CellId → Marks
marks_at below id = unwrap_or (slice_get below id.0) Several

-- the mark of no signal that stands in the cell's tree is left out
abbrev pub ShowsMarks : Cells → List (Option ℕ) → List Marks → CellId → Type 0
ShowsMarks g marks below id = (sig : ℕ) → stands_in sig (tree_of g id) ≡ true → Admits (marks_at below id) (mark_of marks sig)
