-- The cells on which cells stand.
use Rattle.std.specs.Prelude.{◌≡◌, ◌⊎◌, ℕ, ◌<◌, List, length, Some, slice_get}
use Rattle.std.specs.List.{Contains}
use Rattle.cell_graph.specs.declared.cell.Cell.{Cell}
use Rattle.cell_graph.specs.declared.cell.Cell.TheVariants.{Var, Const, Not, And, Or, Xor, Add, Sub, Eq, Lt, Shl, Shr, Mux, Concat, Slice, Extend, Reduce}
use Rattle.cell_graph.specs.declared.cell.CellId.{CellId}
use Rattle.cell_graph.specs.Cells.{Cells, cell_at}

-- x is an operand of the cell
abbrev pub IsOperand : Cell → CellId → Type 0
IsOperand (Var sig) x = ⊥
IsOperand (Const w value) x = ⊥
IsOperand (Not a) x = x ≡ a
IsOperand (And a b) x = (x ≡ a) ⊎ (x ≡ b)
IsOperand (Or a b) x = (x ≡ a) ⊎ (x ≡ b)
IsOperand (Xor a b) x = (x ≡ a) ⊎ (x ≡ b)
IsOperand (Add a b) x = (x ≡ a) ⊎ (x ≡ b)
IsOperand (Sub a b) x = (x ≡ a) ⊎ (x ≡ b)
IsOperand (Eq a b) x = (x ≡ a) ⊎ (x ≡ b)
IsOperand (Lt a b) x = (x ≡ a) ⊎ (x ≡ b)
IsOperand (Shl a by) x = (x ≡ a) ⊎ (x ≡ by)
IsOperand (Shr a by) x = (x ≡ a) ⊎ (x ≡ by)
IsOperand (Mux c y z) x = (x ≡ c) ⊎ ((x ≡ y) ⊎ (x ≡ z))
IsOperand (Concat high low) x = (x ≡ high) ⊎ (x ≡ low)
IsOperand (Slice a at w) x = x ≡ a
IsOperand (Extend a w) x = x ≡ a
IsOperand (Reduce kind a) x = x ≡ a

-- a cell on which one of the roots stands: a root, or an operand of such a cell
pub data IsBelow (g : Cells) (roots : List CellId) : CellId → Type 0 where
  root : {c : CellId} → Contains roots c → IsBelow g roots c
  operand : {c x : CellId} → IsBelow g roots c → IsOperand (cell_at g c) x → IsBelow g roots x

-- with each cell its operands
abbrev pub IsClosed : Cells → List CellId → Type 0
IsClosed g cells = (c x : CellId) → Contains cells c → IsOperand (cell_at g c) x → Contains cells x

-- each is a cell of the graph
abbrev pub AreIn : Cells → List CellId → Type 0
AreIn g cells = (c : CellId) → Contains cells c → c.0 < length g.cells

-- each before all later ones, none twice
abbrev pub AreAscending : List CellId → Type 0
AreAscending cells = (i j : ℕ) (c d : CellId) → i < j → slice_get cells i ≡ Some c → slice_get cells j ≡ Some d → c.0 < d.0

-- the cells keep their places where more are added
abbrev pub KeepPlaces : List CellId → List CellId → Type 0
KeepPlaces old new = (k : ℕ) (c : CellId) → slice_get old k ≡ Some c → slice_get new k ≡ Some c
