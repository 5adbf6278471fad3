-- The cells of trees, those of a shared tree counted each time.
use Rattle.std.specs.Prelude.{◌≡◌, ℕ, suc, ◌+◌, ◌<◌, ◌≤◌, min, List, [], ◌∷◌, ◌++◌, length, map, Some, slice_get, get_or}
use Rattle.std.specs.List.{Contains}
use Rattle.cdc_base.specs.declared.limits.TheConstants.{MAX_CELLS}
use Rattle.cell_graph.specs.declared.cell.CellId.{CellId}
use Rattle.cell_graph.specs.Nets.{register_signals}
use Rattle.cell_graph.specs.Tree.{Tree, Var, Const, Not, And, Or, Xor, Add, Sub, Eq, Lt, Shl, Shr, Mux, Concat, Slice, Extend, ReduceAnd, ReduceOr, ReduceXor}
use Rattle.flat_meaning.specs.Design.{Flat}
use Rattle.flat_meaning.specs.SignalTrees.{AreTrees, clock_tree_of, next_tree_of, tree_of}
use Rattle.flat_meaning.specs.Trees.{Selects}
use Rattle.driver_trees.specs.declared.draft.Draft.{Draft}
use Rattle.driver_trees.specs.declared.sketch.Piece.{Piece}
use Rattle.driver_trees.specs.declared.sketch.Register.{Register}
use Rattle.driver_trees.specs.declared.sketch.Sketch.{Sketch}
use Rattle.driver_trees.specs.Drafts.{tree_in}

abbrev pub cells_in : Tree → ℕ
cells_in (Var sig w) = 1
cells_in (Const w value) = 1
cells_in (Not a) = suc (cells_in a)
cells_in (And a b) = suc (cells_in a + cells_in b)
cells_in (Or a b) = suc (cells_in a + cells_in b)
cells_in (Xor a b) = suc (cells_in a + cells_in b)
cells_in (Add a b) = suc (cells_in a + cells_in b)
cells_in (Sub a b) = suc (cells_in a + cells_in b)
cells_in (Eq a b) = suc (cells_in a + cells_in b)
cells_in (Lt a b) = suc (cells_in a + cells_in b)
cells_in (Shl a by) = suc (cells_in a + cells_in by)
cells_in (Shr a by) = suc (cells_in a + cells_in by)
cells_in (Mux c x y) = suc (cells_in c + (cells_in x + cells_in y))
cells_in (Concat high low) = suc (cells_in high + cells_in low)
cells_in (Slice a at w) = suc (cells_in a)
cells_in (Extend a w) = suc (cells_in a)
cells_in (ReduceAnd a) = suc (cells_in a)
cells_in (ReduceOr a) = suc (cells_in a)
cells_in (ReduceXor a) = suc (cells_in a)

-- those of the clocks and next values of registers
abbrev pub register_cells : Flat → Selects → List ℕ → ℕ
register_cells f sel [] = 0
register_cells f sel (x ∷ xs) = cells_in (clock_tree_of f sel x) + (cells_in (next_tree_of f sel x) + register_cells f sel xs)

abbrev pub output_cells : Flat → Selects → List ℕ → ℕ
output_cells f sel [] = 0
output_cells f sel (x ∷ xs) = cells_in (tree_of f sel x) + output_cells f sel xs

-- the cells that a design's registers and outputs need
abbrev pub all_cells : Flat → Selects → ℕ
all_cells f sel = register_cells f sel (register_signals 0 f.signals) + output_cells f sel f.outputs

abbrev pub HasTooManyCells : Flat → Type 0
HasTooManyCells f = (sel : Selects) → AreTrees f sel → MAX_CELLS < all_cells f sel

abbrev pub HasRoom : Flat → Type 0
HasRoom f = (sel : Selects) → AreTrees f sel → all_cells f sel ≤ MAX_CELLS

-- ---- counts that stop at the end of their type

abbrev pub capped : ℕ → ℕ
capped n = min n 4294967295

-- the count of a vertex that was met, 0 before
abbrev pub count_at : List ℕ → ℕ → ℕ
count_at counts v = get_or counts v 0

abbrev pub added : List ℕ → List ℕ → ℕ
added counts [] = 0
added counts (v ∷ vs) = count_at counts v + added counts vs

-- a count of the cells of a vertex's tree
pub record IsCountOf (sel : Selects) (ds : List Draft) (ps : List Piece) (v n : ℕ) : Type 0 where
  pub draft : (id : CellId) → id.0 ≡ v → v < length ds → n ≡ capped (cells_in (tree_in sel ds id))
  pub piece : (i : ℕ) (p : Piece) → v ≡ length ds + i → slice_get ps i ≡ Some p → n ≡ capped (cells_in (tree_in sel ds p.tree))

abbrev pub IsCounted : Selects → List Draft → List Piece → List ℕ → ℕ → Type 0
IsCounted sel ds ps counts v = IsCountOf sel ds ps v (count_at counts v)

-- ---- the drafts that a design needs

abbrev pub register_roots : List Register → List ℕ
register_roots [] = []
register_roots (r ∷ rs) = r.clock.0 ∷ r.next.0 ∷ register_roots rs

abbrev pub root_ids : Sketch → List ℕ
root_ids s = register_roots s.registers.items ++ map (λ (o : CellId). o.0) s.outputs.items

-- the cells of the trees of drafts
abbrev pub draft_cells : Selects → List Draft → List ℕ → ℕ
draft_cells sel ds [] = 0
draft_cells sel ds (v ∷ vs) = cells_in (tree_in sel ds (record { 0 = v })) + draft_cells sel ds vs
