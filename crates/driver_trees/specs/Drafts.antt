-- The trees of drafts, where a function tells what selects of signals stand for.
use Rattle.std.specs.Prelude.{◌≡◌, ℕ, ◌+◌, ◌^◌, ◌<◌, ◌≤◌, List, [], ◌∷◌, ◌++◌, length, Some, slice_get}
use Rattle.std.specs.Option.{option_map_or}
use Rattle.cell_graph.specs.declared.cell.Cell.{Cell}
use Rattle.cell_graph.specs.declared.cell.Cell.TheVariants.{Var, Const, Not, And, Or, Xor, Add, Sub, Eq, Lt, Shl, Shr, Mux, Concat, Slice, Extend, Reduce}
use Rattle.cell_graph.specs.declared.cell.CellId.{CellId}
use Rattle.cell_graph.specs.Tree.{Tree}
use Rattle.cell_graph.specs.Unfolded.{tree_at, unfolded}
use Rattle.flat_meaning.specs.Trees.{Selects}
use Rattle.driver_trees.specs.declared.draft.Draft.{Draft}
use Rattle.driver_trees.specs.declared.draft.Form.{Form}
use Rattle.driver_trees.specs.declared.draft.Form.TheVariants.{Read, Made}

-- the tree of a draft, by the trees of the drafts before it
abbrev pub form_tree : Selects → List Tree → ℕ → Form → Tree
form_tree sel ts w (Read sig at) = sel sig at w
form_tree sel ts w (Made cell) = unfolded [] ts cell

abbrev pub trees_after : Selects → List Tree → List Draft → List Tree
trees_after sel ts [] = ts
trees_after sel ts (d ∷ ds) = trees_after sel (ts ++ form_tree sel ts d.width d.form ∷ []) ds

abbrev pub draft_trees : Selects → List Draft → List Tree
draft_trees sel ds = trees_after sel [] ds

-- the tree of the draft at a place
abbrev pub tree_in : Selects → List Draft → CellId → Tree
tree_in sel ds id = tree_at (draft_trees sel ds) id

-- the bits of the draft at a place; one where there is none
abbrev pub width_at : List Draft → CellId → ℕ
width_at ds id = option_map_or (λ (d : Draft). d.width) (slice_get ds id.0) 1

-- two operands before place n, of one width
abbrev pub AreAlike : List Draft → ℕ → CellId → CellId → Type 0
AreAlike ds n a b = (a.0 < n) × (b.0 < n) × (width_at ds a ≡ width_at ds b)

-- a cell of w bits that may stand at place n: its operands are drafts before it, of widths that fit
abbrev pub IsMade : List Draft → ℕ → ℕ → Cell → Type 0
IsMade ds n w (Var sig) = ⊥
IsMade ds n w (Const v value) = (w ≡ v) × (1 ≤ v) × (v ≤ 64) × (value < 2 ^ v)
IsMade ds n w (Not a) = (w ≡ width_at ds a) × (a.0 < n)
IsMade ds n w (And a b) = (w ≡ width_at ds a) × AreAlike ds n a b
IsMade ds n w (Or a b) = (w ≡ width_at ds a) × AreAlike ds n a b
IsMade ds n w (Xor a b) = (w ≡ width_at ds a) × AreAlike ds n a b
IsMade ds n w (Add a b) = (w ≡ width_at ds a) × AreAlike ds n a b
IsMade ds n w (Sub a b) = (w ≡ width_at ds a) × AreAlike ds n a b
IsMade ds n w (Eq a b) = (w ≡ 1) × AreAlike ds n a b
IsMade ds n w (Lt a b) = (w ≡ 1) × AreAlike ds n a b
IsMade ds n w (Shl a by) = (w ≡ width_at ds a) × (a.0 < n) × (by.0 < n)
IsMade ds n w (Shr a by) = (w ≡ width_at ds a) × (a.0 < n) × (by.0 < n)
IsMade ds n w (Mux c x y) = (w ≡ width_at ds x) × (c.0 < n) × (width_at ds c ≡ 1) × AreAlike ds n x y
IsMade ds n w (Concat high low) = (w ≡ width_at ds high + width_at ds low) × (high.0 < n) × (low.0 < n) × (w ≤ 64)
IsMade ds n w (Slice a at v) = (w ≡ v) × (a.0 < n) × (1 ≤ v) × (at + v ≤ width_at ds a)
IsMade ds n w (Extend a v) = (w ≡ v) × (a.0 < n) × (width_at ds a < v) × (v ≤ 64)
IsMade ds n w (Reduce k a) = (w ≡ 1) × (a.0 < n)

-- a draft that may stand at place n; a read is of bits that its signal has
abbrev pub IsDraftAt : (ℕ → ℕ) → List Draft → ℕ → ℕ → Form → Type 0
IsDraftAt wid ds n w (Read sig at) = (1 ≤ w) × (at + w ≤ wid sig) × (wid sig ≤ 64)
IsDraftAt wid ds n w (Made cell) = IsMade ds n w cell

-- every draft may stand at its place
abbrev pub AreDrafts : (ℕ → ℕ) → List Draft → Type 0
AreDrafts wid ds = (n : ℕ) (d : Draft) → slice_get ds n ≡ Some d → IsDraftAt wid ds n d.width d.form

-- a draft of w bits
abbrev pub IsDraftOf : List Draft → CellId → ℕ → Type 0
IsDraftOf ds id w = (id.0 < length ds) × (width_at ds id ≡ w)
