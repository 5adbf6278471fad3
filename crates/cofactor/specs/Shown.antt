-- What a table of cofactors shows of the cells of a graph.
use Rattle.std.specs.Prelude.{◌≡◌, ◌⊎◌, ◌≤◌, bit_and, ℕ, ◌+◌, ◌<◌, ◌==◌, Bool, true, false, suc, cond, List, [], ◌∷◌, length, Option, Some, None, option_map, slice_get, unwrap_or}
use Rattle.std.specs.Option.{option_and_then}
use Rattle.cdc_base.specs.declared.bit.Bit.{Bit}
use Rattle.cell_graph.specs.declared.cell.Cell.{Cell}
use Rattle.cell_graph.specs.declared.cell.Cell.TheVariants.{Var, Const, Not, And, Or, Xor, Add, Sub, Eq, Lt, Shl, Shr, Mux, Concat, Slice, Extend, Reduce}
use Rattle.cell_graph.specs.declared.cell.CellId.{CellId}
use Rattle.cell_graph.specs.Cells.{Cells, cell_at, cell_width}
use Rattle.cell_graph.specs.Below.{IsOperand}
use Rattle.cell_graph.specs.Reading.{Cube}
use Rattle.cell_graph.specs.Tree.{bit_at}
use Rattle.cell_graph.specs.Cofactor.{known, same}
use Rattle.cell_graph.specs.Unfolded.{tree_of}
use Rattle.cell_graph.specs.declared.feeds.Passed.{Passed}
use Rattle.cell_graph.specs.declared.feeds.Passed.TheVariants as passed
use Rattle.cofactor.specs.declared.masks.Masks.{Masks}
use Rattle.cofactor.specs.declared.table.Row.{Row}
use Rattle.cofactor.specs.Masks.{masks_of}

-- the rows of a table, and the state bits to which they point; row n is that of cell n, or of the nth cell of a list
pub record Shown : Type 0 where
  pub cells : Option (List CellId)
  pub rows : List Row
  pub sames : List Bit

-- the place of a cell in a list
abbrev pub place_among : List CellId → CellId → Option ℕ
place_among [] id = None
place_among (c ∷ cs) id = cond (c.0 == id.0) (Some 0) (option_map (λ n. suc n) (place_among cs id))

abbrev pub place_in : Option (List CellId) → CellId → Option ℕ
place_in None id = Some id.0
place_in (Some cells) id = place_among cells id

-- the row of a cell; nothing is shown of a cell that the table doesn't have
abbrev pub no_row : Row
no_row = record { masks = record { known = 0; value = 0 }; same = 0; start = 0 }

abbrev pub row_at : Shown → CellId → Row
row_at t id = unwrap_or (option_and_then (slice_get t.rows) (place_in t.cells id)) no_row

abbrev pub masks_at : Shown → CellId → Masks
masks_at t id = (row_at t id).masks

-- what the table shows to be known of a cell's bits is what the rules show
abbrev pub ShowsMasks : Cells → Cube → Shown → CellId → Type 0
ShowsMasks g cube t id = masks_at t id ≡ masks_of (known cube (tree_of g id)) (cell_width g id)

-- each of the first n places has a cell of the graph, behind its operands
abbrev pub IsComplete : Cells → Option (List CellId) → ℕ → Type 0
IsComplete g cells n = (place : ℕ) (id : CellId) → place < n → place_in cells id ≡ Some place
    → (id.0 < length g.cells) × ((a : CellId) → IsOperand (cell_at g id) a → (before : ℕ) × (before < place) × (place_in cells a ≡ Some before))

-- the state bit that bit i equals, by a row and by a cell
abbrev pub same_in : Shown → Row → ℕ → Option Bit
same_in t row i = cond (bit_at row.same i) (slice_get t.sames (row.start + i)) None

abbrev pub same_at : Shown → CellId → ℕ → Option Bit
same_at t id i = same_in t (row_at t id) i

-- a bit of a mask and what stands in its place tell of this state bit, or of none
abbrev pub IsSame : Bool → Option Bit → Option Bit → Type 0
IsSame set there None = set ≡ false
IsSame set there (Some b) = (set ≡ true) × (there ≡ Some b)

-- the state bits that the row of a cell shows are those that the rules show
abbrev pub ShowsSames : Cells → Cube → Shown → CellId → Type 0
ShowsSames g cube t id = (i : ℕ) → i < cell_width g id → IsSame (bit_at (row_at t id).same i) (slice_get t.sames ((row_at t id).start + i)) (same cube (tree_of g id) i)

-- the table has a row for the cell
abbrev pub HasPlace : Shown → CellId → Type 0
HasPlace t id = (place : ℕ) × (place_in t.cells id ≡ Some place)

-- the table has a row for the cell, which shows of its bits what the rules show
pub record Shows (g : Cells) (cube : Cube) (t : Shown) (id : CellId) : Type 0 where
  pub place : HasPlace t id
  pub masks : ShowsMasks g cube t id
  pub sames : ShowsSames g cube t id

-- what a bit that is passed equals
abbrev pub same_passed : Shown → Passed → Option Bit
same_passed t (passed.Bit n) = same_at t n.cell n.at
same_passed t passed.Zero = None
same_passed t passed.Other = None

-- the bits keep their places where more are added
abbrev pub KeepBits : List Bit → List Bit → Type 0
KeepBits old new = (k : ℕ) (b : Bit) → slice_get old k ≡ Some b → slice_get new k ≡ Some b

-- neither row has a state bit where the other is known to have this value
abbrev pub HasNoneBeside : Row → Row → Bool → Type 0
HasNoneBeside a b v = (k l : ℕ → Option Bool) (w i : ℕ) → w ≤ 64 → a.masks ≡ masks_of k w → b.masks ≡ masks_of l w → i < w
    → (l i ≡ Some v → bit_at a.same i ≡ false) × (k i ≡ Some v → bit_at b.same i ≡ false)

-- no branch has a state bit, or the condition is unknown and no bit of both branches has one
abbrev pub HasNoChoice : Shown → CellId → CellId → CellId → Type 0
HasNoChoice t c x y = (((masks_at t c).known ≡ 0) × (bit_and (row_at t x).same (row_at t y).same ≡ 0)) ⊎ (((row_at t x).same ≡ 0) × ((row_at t y).same ≡ 0))

-- the rows of the operands show no state bit that a bit of the cell could have
abbrev pub HasNoSames : Shown → Cell → Type 0
HasNoSames t (Var sig) = ⊥
HasNoSames t (Const w value) = Unit {0}
HasNoSames t (Not a) = Unit {0}
HasNoSames t (And a b) = HasNoneBeside (row_at t a) (row_at t b) true
HasNoSames t (Or a b) = HasNoneBeside (row_at t a) (row_at t b) false
HasNoSames t (Xor a b) = HasNoneBeside (row_at t a) (row_at t b) false
HasNoSames t (Add a b) = Unit {0}
HasNoSames t (Sub a b) = Unit {0}
HasNoSames t (Eq a b) = Unit {0}
HasNoSames t (Lt a b) = Unit {0}
HasNoSames t (Shl a by) = (row_at t a).same ≡ 0
HasNoSames t (Shr a by) = (row_at t a).same ≡ 0
HasNoSames t (Mux c x y) = HasNoChoice t c x y
HasNoSames t (Concat high low) = ((row_at t high).same ≡ 0) × ((row_at t low).same ≡ 0)
HasNoSames t (Slice a at w) = (row_at t a).same ≡ 0
HasNoSames t (Extend a w) = (row_at t a).same ≡ 0
HasNoSames t (Reduce kind a) = (row_at t a).same ≡ 0
