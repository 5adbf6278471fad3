-- The guards that stand on ways.
use Rattle.std.specs.Prelude.{◌≡◌, ◌⊎◌, ℕ, zero, suc, ◌<◌, Bool, true, false, List, [], ◌∷◌, ◌++◌, map}
use Rattle.cdc_base.specs.declared.bit.Bit.{Bit}
use Rattle.cell_graph.specs.declared.cell.Cell.{Cell}
use Rattle.cell_graph.specs.declared.cell.Cell.TheVariants.{Var, Const, Not, And, Or, Xor, Add, Sub, Eq, Lt, Shl, Shr, Mux, Concat, Slice, Extend, Reduce}
use Rattle.cell_graph.specs.declared.cell.CellId.{CellId}
use Rattle.cell_graph.specs.declared.cell.Node.{Node}
use Rattle.cell_graph.specs.Below.{IsBelow}
use Rattle.cell_graph.specs.Cells.{Cells, cell_at, cell_width}
use Rattle.cell_graph.specs.Unfolded.{tree_of}
use Rattle.fifo_terms.specs.Terms.{Term, terms}
use Rattle.fifo_ways.specs.declared.sought.Guard.{Guard}

-- the terms of a guard
abbrev pub guard_terms : Cells → Guard → List Term
guard_terms g p = terms (tree_of g p.node.cell) p.node.at p.value

-- the guard that bit i of a cell is at a value
abbrev pub guard : CellId → ℕ → Bool → Guard
guard c i v = record { node = record { cell = c; at = i }; value = v }

-- the guards of the branches of a Mux, and of the operands of And and Or, at bit i
abbrev pub IsGuardOf : Cell → ℕ → Guard → Type 0
IsGuardOf (Var sig) i p = ⊥
IsGuardOf (Const w value) i p = ⊥
IsGuardOf (Not a) i p = ⊥
IsGuardOf (And a b) i p = (p ≡ guard a i true) ⊎ (p ≡ guard b i true)
IsGuardOf (Or a b) i p = (p ≡ guard a i false) ⊎ (p ≡ guard b i false)
IsGuardOf (Xor a b) i p = ⊥
IsGuardOf (Add a b) i p = ⊥
IsGuardOf (Sub a b) i p = ⊥
IsGuardOf (Eq a b) i p = ⊥
IsGuardOf (Lt a b) i p = ⊥
IsGuardOf (Shl a by) i p = ⊥
IsGuardOf (Shr a by) i p = ⊥
IsGuardOf (Mux c x y) i p = (p ≡ guard c 0 true) ⊎ (p ≡ guard c 0 false)
IsGuardOf (Concat high low) i p = ⊥
IsGuardOf (Slice a at w) i p = ⊥
IsGuardOf (Extend a w) i p = ⊥
IsGuardOf (Reduce kind a) i p = ⊥

-- the cells of nodes
abbrev pub cells_of : List Node → List CellId
cells_of nodes = map (λ (n : Node). n.cell) nodes

-- a guard of a bit of a cell on which the roots stand
abbrev pub IsAsked : Cells → List Bit → List Node → Guard → Type 0
IsAsked g words roots p = (c : CellId) × (i : ℕ) × IsBelow g (cells_of roots) c × (i < cell_width g c) × IsGuardOf (cell_at g c) i p

-- all guards of the lowest n bits of two operands, at a value
abbrev pub pair_guards : CellId → CellId → Bool → ℕ → List Guard
pair_guards a b v zero = []
pair_guards a b v (suc n) = pair_guards a b v n ++ (guard a n v ∷ guard b n v ∷ [])

-- the guards of a cell of w bits
abbrev pub cell_guards : Cell → (w : ℕ) → List Guard
cell_guards (Var sig) w = []
cell_guards (Const n value) w = []
cell_guards (Not a) w = []
cell_guards (And a b) w = pair_guards a b true w
cell_guards (Or a b) w = pair_guards a b false w
cell_guards (Xor a b) w = []
cell_guards (Add a b) w = []
cell_guards (Sub a b) w = []
cell_guards (Eq a b) w = []
cell_guards (Lt a b) w = []
cell_guards (Shl a by) w = []
cell_guards (Shr a by) w = []
cell_guards (Mux c x y) w = guard c 0 true ∷ guard c 0 false ∷ []
cell_guards (Concat high low) w = []
cell_guards (Slice a at n) w = []
cell_guards (Extend a n) w = []
cell_guards (Reduce kind a) w = []

-- those of all these cells
abbrev pub all_guards : Cells → List CellId → List Guard
all_guards g [] = []
all_guards g (c ∷ cs) = cell_guards (cell_at g c) (cell_width g c) ++ all_guards g cs
