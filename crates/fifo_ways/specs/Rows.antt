-- Which bits of cells are kept in rows.
use Rattle.std.specs.Prelude.{◌≡◌, ◌↔◌, ℕ, ◌<◌, Bool, true, false, List, unwrap_or}
use Rattle.std.specs.List.{Contains}
use Rattle.std.specs.HashMap as hash
use Rattle.std.specs.HashMap.{HashMap}
use Rattle.cell_graph.specs.declared.cell.CellId.{CellId}
use Rattle.cell_graph.specs.declared.cell.Node.{Node}
use Rattle.cell_graph.specs.Cells.{Cells, cell_width}
use Rattle.cell_graph.specs.Met.{same_id}
use Rattle.cell_graph.specs.Tree.{Tree, bit_at}
use Rattle.cell_graph.specs.Unfolded.{IsWellFormed, tree_of}
use Rattle.cdc_model.specs.Design.{Design}
use Rattle.fifo_laws.specs.Fifos.{marks_of}
use Rattle.fifo_laws.specs.Sides.{Side}
use Rattle.fifo_laws.specs.Ways.{Marks, Passes}
use Rattle.fifo_ways.specs.declared.rows.Row.{Row}
use Rattle.fifo_ways.specs.declared.sought.Sought.{Sought}
use Rattle.fifo_ways.specs.Judged.{Found}
use Rattle.fifo_ways.specs.Sought.{ShowsMarks, AreBelow, AreFound}

-- the row of a cell; one that has none has no bit
abbrev pub no_bits : Row
no_bits = record { guarded = 0; free = 0 }

abbrev pub row_at : {S : Type 0} → HashMap CellId Row S → CellId → Row
row_at rows c = unwrap_or (hash.get same_id rows c) no_bits

-- the bits where a guard was passed, or where none was
abbrev pub bits_of : Bool → Row → ℕ
bits_of true r = r.guarded
bits_of false r = r.free

-- bit i of a cell is among them
abbrev pub has : {S : Type 0} → HashMap CellId Row S → Bool → CellId → ℕ → Bool
has rows g c i = bit_at (bits_of g (row_at rows c)) i

-- the row of a cell says of which bits all ways pass what is looked for
abbrev pub ShowsWays : {S : Type 0} → Cells → Marks → HashMap CellId Row S → CellId → Type 0
ShowsWays g m rows c = (b : Bool) (i : ℕ) → i < cell_width g c → (has rows b c i ≡ true) ↔ Passes m b (tree_of g c) i

-- for each FIFO's marks that are found, the cells done, of those below some roots, have their rows
abbrev pub HaveRows : {S : Type 0} → Cells → Found → (cells done : List CellId) → HashMap CellId Row S → Type 0
HaveRows g f cells done rows =
    (roots : List Node) (s : Sought) (d : Design) (tree : ℕ → Tree) (write read : Side) → IsWellFormed g
    → ShowsMarks g roots s (marks_of d tree write read) → AreFound s f
    → AreBelow g roots cells → (c : CellId) → Contains done c → ShowsWays g (marks_of d tree write read) rows c
