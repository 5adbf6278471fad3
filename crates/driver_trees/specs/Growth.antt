-- Drafts that grow by a word, and what its tree is.
use Rattle.std.specs.Prelude.{◌≡◌, ℕ, ◌+◌, ◌<◌, length, min, List, [], ◌∷◌, ◌++◌, Option, Some, None}
use Rattle.cell_graph.specs.declared.cell.Cell.{Cell}
use Rattle.cell_graph.specs.declared.cell.Cell.TheVariants as cell
use Rattle.cell_graph.specs.declared.cell.CellId.{CellId}
use Rattle.cell_graph.specs.Tree.{Tree, Const}
use Rattle.flat_meaning.specs.Trees.{Selects, glue}
use Rattle.driver_trees.specs.declared.draft.Draft.{Draft}
use Rattle.driver_trees.specs.declared.draft.Form.{Form}
use Rattle.driver_trees.specs.Drafts.{tree_in, width_at, AreDrafts, IsDraftOf}

-- the bits of a cell over drafts. A sum stands still at the end of its type
abbrev pub cell_bits : List Draft → Cell → ℕ
cell_bits ds (cell.Var sig) = 1
cell_bits ds (cell.Const w value) = w
cell_bits ds (cell.Not a) = width_at ds a
cell_bits ds (cell.And a b) = width_at ds a
cell_bits ds (cell.Or a b) = width_at ds a
cell_bits ds (cell.Xor a b) = width_at ds a
cell_bits ds (cell.Add a b) = width_at ds a
cell_bits ds (cell.Sub a b) = width_at ds a
cell_bits ds (cell.Eq a b) = 1
cell_bits ds (cell.Lt a b) = 1
cell_bits ds (cell.Shl a by) = width_at ds a
cell_bits ds (cell.Shr a by) = width_at ds a
cell_bits ds (cell.Mux c x y) = width_at ds x
cell_bits ds (cell.Concat high low) = min (width_at ds high + width_at ds low) 255
cell_bits ds (cell.Slice a at w) = w
cell_bits ds (cell.Extend a w) = w
cell_bits ds (cell.Reduce k a) = 1

abbrev pub drafted : Form → ℕ → Draft
drafted f w = record { form = f; width = w }

abbrev pub IsLonger : List Draft → List Draft → Type 0
IsLonger old new = (rest : List Draft) × (new ≡ old ++ rest)

-- further drafts at the end, each of which may stand there
pub record Grows (wid : ℕ → ℕ) (old new : List Draft) : Type 0 where
  pub longer : IsLonger old new
  pub drafts : AreDrafts wid new

-- drafts that have grown by a word of w bits and the tree t
pub record IsBuilt (wid : ℕ → ℕ) (old new : List Draft) (id : CellId) (w : ℕ) (t : Selects → Tree) : Type 0 where
  pub grows : Grows wid old new
  pub place : IsDraftOf new id w
  pub tree : (sel : Selects) → tree_in sel new id ≡ t sel

-- drafts side by side, the first one highest: their bits, and their tree
abbrev pub joined_bits : List Draft → List CellId → ℕ
joined_bits ds [] = 0
joined_bits ds (id ∷ ids) = width_at ds id + joined_bits ds ids

abbrev pub joined_in : Selects → List Draft → List CellId → Tree
joined_in sel ds [] = Const 0 0
joined_in sel ds (id ∷ ids) = glue (width_at ds id) (tree_in sel ds id) (joined_bits ds ids) (joined_in sel ds ids)

-- words that are there
abbrev pub AreIn : List Draft → List CellId → Type 0
AreIn ds [] = Unit {0}
AreIn ds (id ∷ ids) = (id.0 < length ds) × AreIn ds ids

-- a word that may be missing: it has no bits then
abbrev pub optional_bits : List Draft → Option CellId → ℕ
optional_bits ds None = 0
optional_bits ds (Some id) = width_at ds id

abbrev pub optional_tree : Selects → List Draft → Option CellId → Tree
optional_tree sel ds None = Const 0 0
optional_tree sel ds (Some id) = tree_in sel ds id

abbrev pub IsOptionalDraft : List Draft → Option CellId → Type 0
IsOptionalDraft ds None = Unit {0}
IsOptionalDraft ds (Some id) = IsDraftOf ds id (width_at ds id)
