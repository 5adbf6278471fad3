-- Which bits of the cells below the end of a path read its source, as a word for each cell.
use Rattle.std.specs.Prelude.{◌≡◌, ◌↔◌, ℕ, ◌≤◌, ◌<◌, Bool, true, false, cond, Option, Some, None, List, [], ◌∷◌, get_or}
use Rattle.std.specs.List.{Contains}
use Rattle.std.specs.Option.{option_map_or}
use Rattle.cdc_base.specs.declared.bit.Bit.{Bit}
use Rattle.cell_graph.specs.declared.cell.Cell.{Cell}
use Rattle.cell_graph.specs.declared.cell.CellId.{CellId}
use Rattle.cell_graph.specs.declared.cell.Node.{Node}
use Rattle.cell_graph.specs.Below.{IsOperand, IsClosed}
use Rattle.cell_graph.specs.Cells.{Cells, cell_width}
use Rattle.cell_graph.specs.Cofactor.{reads}
use Rattle.cell_graph.specs.Reading.{bit_eq}
use Rattle.cell_graph.specs.Tree.{bit_at}
use Rattle.cell_graph.specs.Unfolded.{tree_of, IsNodeOf}
use Rattle.cofactor.specs.Made.{HasBit, IsMadeOf}
use Rattle.cofactor.specs.Shown.{Shown, same_at}
use Rattle.cdc_model.specs.Listed.{node_reads}

-- the word of a cell; no bit is set for a cell that has none
abbrev pub word_at : List ℕ → CellId → ℕ
word_at words c = get_or words c.0 0

-- the bits of the cell that read b
abbrev pub IsReading : Cells → Bit → CellId → ℕ → Type 0
IsReading g b c word = (i : ℕ) → (bit_at word i ≡ true) ↔ ((i < cell_width g c) × (reads [] (tree_of g c) i b ≡ true))

-- each of these cells has its word
abbrev pub AreReadings : Cells → Bit → List ℕ → List CellId → Type 0
AreReadings g b words cells = (c : CellId) → Contains cells c → IsReading g b c (word_at words c)

-- each operand of the cell has its word
abbrev pub AreOperandsRead : Cells → Bit → List ℕ → Cell → Type 0
AreOperandsRead g b words cell = (a : CellId) → IsOperand cell a → IsReading g b a (word_at words a)

-- bit i of the cell is made of a bit that reads b
abbrev pub IsFed : Cells → Bit → Cell → ℕ → Type 0
IsFed g b cell i = (x : CellId) × (j : ℕ) × IsMadeOf g [] cell i x j × (j < cell_width g x) × (reads [] (tree_of g x) j b ≡ true)

abbrev pub AreFed : Cells → Bit → Cell → ℕ → Type 0
AreFed g b cell word = (i : ℕ) → i < 64 → (bit_at word i ≡ true) ↔ IsFed g b cell i

-- a word with all bits from the lowest of another's on, and one with all bits if the other has any
abbrev pub IsFromLowest : ℕ → ℕ → Type 0
IsFromLowest word r = (i : ℕ) → i < 64 → (bit_at r i ≡ true) ↔ ((j : ℕ) × (bit_at word j ≡ true) × (j ≤ i))

abbrev pub IsAllIfAny : ℕ → ℕ → Type 0
IsAllIfAny word r = (i : ℕ) → i < 64 → (bit_at r i ≡ true) ↔ HasBit word

-- whether a bit reads b: not where it is known, as the state bit that its table shows, and else as it is fed
abbrev pub reads_shown : Shown → Bit → (known fed : ℕ) → Node → Bool
reads_shown t b known fed n = cond (bit_at known n.at) false (option_map_or (λ a. bit_eq a b) (same_at t n.cell n.at) (bit_at fed n.at))

-- the first of the nodes whose bit is set
abbrev pub first_set : List ℕ → List Node → Option Node
first_set words [] = None
first_set words (n ∷ ns) = cond (bit_at (word_at words n.cell) n.at) (Some n) (first_set words ns)

-- a node from which a path leads down to b: it reads b, and the cells below it have their words
pub record IsOnPath (g : Cells) (b : Bit) (words : List ℕ) (cells : List CellId) (n : Node) : Type 0 where
  pub closed : IsClosed g cells
  pub shown : AreReadings g b words cells
  pub there : Contains cells n.cell
  pub node : IsNodeOf g n
  pub reads : node_reads g b n ≡ true
