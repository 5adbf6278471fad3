-- What a walk over the bits of cells has met.
use Rattle.std.specs.Prelude.{◌≡◌, ◌⊎◌, ℕ, ◌<◌, Bool, true, List, Option, Some, is_some, slice_get}
use Rattle.std.specs.List.{Contains}
use Rattle.std.specs.Option.{option_map_or}
use Rattle.cdc_base.specs.declared.bit.Bit.{Bit}
use Rattle.cell_graph.specs.declared.cell.Cell.{Cell}
use Rattle.cell_graph.specs.declared.cell.CellId.{CellId}
use Rattle.cell_graph.specs.Below.{IsOperand}
use Rattle.cell_graph.specs.Cells.{Cells, cell_at, cell_width}
use Rattle.cell_graph.specs.Cofactor.{reads}
use Rattle.cell_graph.specs.Reading.{Cube}
use Rattle.cell_graph.specs.Tree.{bit_at}
use Rattle.cell_graph.specs.Unfolded.{tree_of}
use Rattle.cofactor.specs.declared.walk.Wanted.{Wanted}
use Rattle.cofactor.specs.Made.{IsMadeOf}
use Rattle.cofactor.specs.Marks.{marked}
use Rattle.cofactor.specs.Shown.{Shown, place_in}

-- the bits asked for, in the order in which they were, and the state bits found
pub record Walked : Type 0 where
  pub wanted : List Wanted
  pub found : List Bit

-- bit i at a place, or of a cell, was asked for
abbrev pub IsMet : List Wanted → ℕ → ℕ → Type 0
IsMet wanted place i = (w : Wanted) × Contains wanted w × (w.place ≡ place) × (bit_at w.bits i ≡ true)

abbrev pub IsAsked : Shown → List Wanted → CellId → ℕ → Type 0
IsAsked t wanted id i = (place : ℕ) × (place_in t.cells id ≡ Some place) × IsMet wanted place i

-- each bit that is marked was asked for
abbrev pub AreListed : List ℕ → List Wanted → Type 0
AreListed marks wanted = (place i : ℕ) → bit_at (marked marks place) i ≡ true → IsMet wanted place i

-- the one word has no bit that the other hasn't
abbrev pub IsWithin : ℕ → ℕ → Type 0
IsWithin x y = (i : ℕ) → bit_at x i ≡ true → bit_at y i ≡ true

-- some of these bits of a cell were asked for
abbrev pub IsPartOf : Shown → CellId → ℕ → Wanted → Type 0
IsPartOf t id bits w = (place_in t.cells id ≡ Some w.place) × IsWithin w.bits bits

-- bits of an operand were asked for, each of which one of these bits of the cell is made of
abbrev pub AreMakers : Cells → Cube → Shown → Cell → ℕ → Wanted → Type 0
AreMakers g cube t c bits w = (x : CellId) × IsOperand c x × (place_in t.cells x ≡ Some w.place)
    × ((j : ℕ) → bit_at w.bits j ≡ true → j < cell_width g x → (i : ℕ) × (bit_at bits i ≡ true) × IsMadeOf g cube c i x j)

-- what was asked for stays in its place
abbrev pub KeepEntries : List Wanted → List Wanted → Type 0
KeepEntries old new = (k : ℕ) (w : Wanted) → slice_get old k ≡ Some w → slice_get new k ≡ Some w

-- the bit is sought: its signal is marked, or stands beyond the marks
abbrev pub is_sought : List (Option ℕ) → Bit → Bool
is_sought marks b = option_map_or (λ (mark : Option ℕ). is_some mark) (slice_get marks b.sig) true

-- b is found, or read by a bit of an operand that was asked for
abbrev pub LeadsOn : Cells → Cube → Shown → CellId → Walked → Bit → Type 0
LeadsOn g cube t id walked b = Contains walked.found b
    ⊎ ((x : CellId) × (j : ℕ) × IsOperand (cell_at g id) x × (j < cell_width g x) × IsAsked t walked.wanted x j × (reads cube (tree_of g x) j b ≡ true))

-- one of these bits of a cell reads b
abbrev pub IsReadBy : Cells → Cube → CellId → ℕ → Bit → Type 0
IsReadBy g cube id bits b = (i : ℕ) × (bit_at bits i ≡ true) × (i < cell_width g id) × (reads cube (tree_of g id) i b ≡ true)

-- bits of an operand were asked for, which read nothing that these bits of the cell don't read
abbrev pub AreReadThrough : Cells → Cube → Shown → CellId → ℕ → Wanted → Type 0
AreReadThrough g cube t id bits w = (x : CellId) × IsOperand (cell_at g id) x × (place_in t.cells x ≡ Some w.place)
    × ((j : ℕ) → bit_at w.bits j ≡ true → j < cell_width g x → (b : Bit) → reads cube (tree_of g x) j b ≡ true → IsReadBy g cube id bits b)

-- these bits of a cell were read: what they read is asked for or, if it is sought, found; and nothing else is
pub record IsRead (g : Cells) (cube : Cube) (t : Shown) (marks : List (Option ℕ)) (id : CellId) (bits : ℕ) (old new : Walked) : Type 0 where
  pub all : (b : Bit) → is_sought marks b ≡ true → IsReadBy g cube id bits b → LeadsOn g cube t id new b
  pub wanted : (w : Wanted) → Contains new.wanted w → Contains old.wanted w ⊎ AreReadThrough g cube t id bits w
  pub found : (b : Bit) → Contains new.found b → Contains old.found b ⊎ IsReadBy g cube id bits b
  pub sought : (b : Bit) → Contains new.found b → Contains old.found b ⊎ (is_sought marks b ≡ true)
  pub kept : (b : Bit) → Contains old.found b → Contains new.found b
