-- The words and values of runs in rows.
use Rattle.std.specs.Prelude.{◌≡◌, ℕ, ◌<◌, ◌≤◌, Some, List, length, slice_get}
use Rattle.cell_graph.specs.declared.net.Net.{Net}
use Rattle.cell_graph.specs.Values.{AreWordsOf, values_of}
use Rattle.campaign.specs.declared.run.Run.{Run}
use Rattle.campaign.specs.Lanes.{lane}

-- the lane of each of the first n runs, of 8 at most, has the words of its present moment
abbrev pub AreWordsIn : List Run → ℕ → List (List ℕ) → Type 0
AreWordsIn runs n rows = (i : ℕ) (r : Run) → i < n → i < 8 → slice_get runs i ≡ Some r → length rows ≡ length r.moment.words.items → lane i rows ≡ r.moment.words.items

-- from an index on the lane of each run has the values of all cells at its present moment
abbrev pub AreValuesIn : Net → List Run → ℕ → List (List ℕ) → Type 0
AreValuesIn net runs index cells = (i : ℕ) (r : Run) → index ≤ i → i < 8 → slice_get runs i ≡ Some r → AreWordsOf net.graph.signals r.moment.words.items → lane i cells ≡ values_of net.graph r.moment.words.items
