-- The bits of which the bits of cells are made, where a cube fixes some bits.
use Rattle.std.specs.Prelude.{◌≡◌, ◌⊎◌, ℕ, ◌+◌, ◌≤◌, ◌<◌, Bool, true, false, Option, Some, None}
use Rattle.cell_graph.specs.declared.cell.Cell.{Cell}
use Rattle.cell_graph.specs.declared.cell.Cell.TheVariants.{Var, Const, Not, And, Or, Xor, Add, Sub, Eq, Lt, Shl, Shr, Mux, Concat, Slice, Extend, Reduce}
use Rattle.cell_graph.specs.declared.cell.CellId.{CellId}
use Rattle.cell_graph.specs.Cells.{Cells, cell_width}
use Rattle.cell_graph.specs.Cofactor.{known, known_number}
use Rattle.cell_graph.specs.Reading.{Cube}
use Rattle.cell_graph.specs.Tree.{bit_at}
use Rattle.cell_graph.specs.Unfolded.{tree_of}

-- some bit of the word is set
abbrev pub HasBit : ℕ → Type 0
HasBit word = (i : ℕ) × (bit_at word i ≡ true)

-- any bit of one of two cells
abbrev pub IsAnyBit : Cells → CellId → CellId → CellId → ℕ → Type 0
IsAnyBit g a b x j = ((x ≡ a) ⊎ (x ≡ b)) × (j < cell_width g x)

-- bit j of x, for bit i of a word that is moved up or down: by n places if the amount is known
abbrev pub IsMovedUp : Cells → Option ℕ → CellId → CellId → ℕ → CellId → ℕ → Type 0
IsMovedUp g (Some n) a by i x j = (x ≡ a) × (i ≡ j + n)
IsMovedUp g None a by i x j = IsAnyBit g a by x j

abbrev pub IsMovedDown : Cells → Option ℕ → CellId → CellId → ℕ → CellId → ℕ → Type 0
IsMovedDown g (Some n) a by i x j = (x ≡ a) × (j ≡ i + n)
IsMovedDown g None a by i x j = IsAnyBit g a by x j

-- bit j of x, for bit i of a choice: of the chosen branch if the condition is known
abbrev pub IsOfChoice : Option Bool → CellId → CellId → CellId → ℕ → CellId → ℕ → Type 0
IsOfChoice (Some true) c y z i x j = (x ≡ y) × (j ≡ i)
IsOfChoice (Some false) c y z i x j = (x ≡ z) × (j ≡ i)
IsOfChoice None c y z i x j = ((x ≡ c) × (j ≡ 0)) ⊎ (((x ≡ y) ⊎ (x ≡ z)) × (j ≡ i))

-- bit i of the cell is made of bit j of x, among others
abbrev pub IsMadeOf : Cells → Cube → Cell → ℕ → CellId → ℕ → Type 0
IsMadeOf g cube (Var sig) i x j = ⊥
IsMadeOf g cube (Const w value) i x j = ⊥
IsMadeOf g cube (Not a) i x j = (x ≡ a) × (j ≡ i)
IsMadeOf g cube (And a b) i x j = ((x ≡ a) ⊎ (x ≡ b)) × (j ≡ i)
IsMadeOf g cube (Or a b) i x j = ((x ≡ a) ⊎ (x ≡ b)) × (j ≡ i)
IsMadeOf g cube (Xor a b) i x j = ((x ≡ a) ⊎ (x ≡ b)) × (j ≡ i)
IsMadeOf g cube (Add a b) i x j = ((x ≡ a) ⊎ (x ≡ b)) × (j ≤ i)
IsMadeOf g cube (Sub a b) i x j = ((x ≡ a) ⊎ (x ≡ b)) × (j ≤ i)
IsMadeOf g cube (Eq a b) i x j = ((x ≡ a) ⊎ (x ≡ b)) × (j < cell_width g a)
IsMadeOf g cube (Lt a b) i x j = ((x ≡ a) ⊎ (x ≡ b)) × (j < cell_width g a)
IsMadeOf g cube (Shl a by) i x j = IsMovedUp g (known_number (known cube (tree_of g by)) (cell_width g by)) a by i x j
IsMadeOf g cube (Shr a by) i x j = IsMovedDown g (known_number (known cube (tree_of g by)) (cell_width g by)) a by i x j
IsMadeOf g cube (Mux c y z) i x j = IsOfChoice (known cube (tree_of g c) 0) c y z i x j
IsMadeOf g cube (Concat high low) i x j = ((x ≡ low) × (i < cell_width g low) × (j ≡ i)) ⊎ ((x ≡ high) × (i ≡ j + cell_width g low))
IsMadeOf g cube (Slice a at w) i x j = (x ≡ a) × (j ≡ at + i)
IsMadeOf g cube (Extend a w) i x j = (x ≡ a) × (i < cell_width g a) × (j ≡ i)
IsMadeOf g cube (Reduce kind a) i x j = (x ≡ a) × (j < cell_width g a)
