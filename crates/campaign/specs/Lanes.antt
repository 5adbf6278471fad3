-- Words of eight lanes.
use Rattle.std.specs.Prelude.{◌≡◌, ℕ, ◌<◌, List, map, slice_index}
use Rattle.cell_graph.specs.Cells.{Cells}
use Rattle.cell_graph.specs.Values.{AreWordsOf, values_of}

-- the words of one lane
abbrev pub lane : ℕ → List (List ℕ) → List ℕ
lane i rows = map (λ row. slice_index row i) rows

-- each lane has the values of the cells for that lane's reading
abbrev pub AreLanesOf : Cells → List (List ℕ) → List (List ℕ) → Type 0
AreLanesOf g words rows = (i : ℕ) → i < 8 → AreWordsOf g.signals (lane i words) → lane i rows ≡ values_of g (lane i words)
