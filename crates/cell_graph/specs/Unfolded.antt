-- The cells of a graph unfolded into trees, and which graphs are well formed.
use Rattle.std.specs.Prelude.{◌≡◌, ℕ, ◌+◌, ◌≤◌, ◌<◌, ◌^◌, List, [], length, Some, slice_get, unwrap_or}
use Rattle.cdc_base.specs.declared.signal.Signal.{Signal}
use Rattle.cell_graph.specs.declared.cell.Cell.{Cell}
use Rattle.cell_graph.specs.declared.cell.Cell.TheVariants.{Var, Const, Not, And, Or, Xor, Add, Sub, Eq, Lt, Shl, Shr, Mux, Concat, Slice, Extend, Reduce}
use Rattle.cell_graph.specs.declared.cell.CellId.{CellId}
use Rattle.cell_graph.specs.declared.cell.Node.{Node}
use Rattle.cell_graph.specs.declared.cell.ReduceKind.{ReduceKind}
use Rattle.cell_graph.specs.declared.cell.ReduceKind.TheVariants as kind
use Rattle.cell_graph.specs.Tree as tree
use Rattle.cell_graph.specs.Tree.{Tree}
use Rattle.cell_graph.specs.Cells.{Cells, in_order, signal_width, cell_width}

-- the tree at a place; a zero bit where there is none
abbrev pub tree_at : List Tree → CellId → Tree
tree_at trees id = unwrap_or (slice_get trees id.0) (tree.Const 1 0)

abbrev pub reduced : ReduceKind → Tree → Tree
reduced kind.And a = tree.ReduceAnd a
reduced kind.Or a = tree.ReduceOr a
reduced kind.Xor a = tree.ReduceXor a

-- the tree of a cell, by the trees of the cells before it
abbrev pub unfolded : List Signal → List Tree → Cell → Tree
unfolded signals ts (Var sig) = tree.Var sig (signal_width signals sig)
unfolded signals ts (Const w value) = tree.Const w value
unfolded signals ts (Not a) = tree.Not (tree_at ts a)
unfolded signals ts (And a b) = tree.And (tree_at ts a) (tree_at ts b)
unfolded signals ts (Or a b) = tree.Or (tree_at ts a) (tree_at ts b)
unfolded signals ts (Xor a b) = tree.Xor (tree_at ts a) (tree_at ts b)
unfolded signals ts (Add a b) = tree.Add (tree_at ts a) (tree_at ts b)
unfolded signals ts (Sub a b) = tree.Sub (tree_at ts a) (tree_at ts b)
unfolded signals ts (Eq a b) = tree.Eq (tree_at ts a) (tree_at ts b)
unfolded signals ts (Lt a b) = tree.Lt (tree_at ts a) (tree_at ts b)
unfolded signals ts (Shl a by) = tree.Shl (tree_at ts a) (tree_at ts by)
unfolded signals ts (Shr a by) = tree.Shr (tree_at ts a) (tree_at ts by)
unfolded signals ts (Mux c x y) = tree.Mux (tree_at ts c) (tree_at ts x) (tree_at ts y)
unfolded signals ts (Concat high low) = tree.Concat (tree_at ts high) (tree_at ts low)
unfolded signals ts (Slice a at w) = tree.Slice (tree_at ts a) at w
unfolded signals ts (Extend a w) = tree.Extend (tree_at ts a) w
unfolded signals ts (Reduce k a) = reduced k (tree_at ts a)

abbrev pub trees : Cells → List Tree
trees g = in_order (unfolded g.signals) [] g.cells

-- the tree of a cell of the graph
abbrev pub tree_of : Cells → CellId → Tree
tree_of g id = tree_at (trees g) id

-- two operands before place n, of one width
abbrev pub AreAlike : Cells → ℕ → CellId → CellId → Type 0
AreAlike g n a b = (a.0 < n) × (b.0 < n) × (cell_width g a ≡ cell_width g b)

-- a cell that may stand at place n: it names a signal, or earlier cells, of widths that fit
abbrev pub IsCellOf : Cells → ℕ → Cell → Type 0
IsCellOf g n (Var sig) = sig < length g.signals
IsCellOf g n (Const w value) = (1 ≤ w) × (w ≤ 64) × (value < 2 ^ w)
IsCellOf g n (Not a) = a.0 < n
IsCellOf g n (And a b) = AreAlike g n a b
IsCellOf g n (Or a b) = AreAlike g n a b
IsCellOf g n (Xor a b) = AreAlike g n a b
IsCellOf g n (Add a b) = AreAlike g n a b
IsCellOf g n (Sub a b) = AreAlike g n a b
IsCellOf g n (Eq a b) = AreAlike g n a b
IsCellOf g n (Lt a b) = AreAlike g n a b
IsCellOf g n (Shl a by) = (a.0 < n) × (by.0 < n)
IsCellOf g n (Shr a by) = (a.0 < n) × (by.0 < n)
IsCellOf g n (Mux c x y) = (c.0 < n) × (cell_width g c ≡ 1) × AreAlike g n x y
IsCellOf g n (Concat high low) = (high.0 < n) × (low.0 < n) × (cell_width g high + cell_width g low ≤ 64)
IsCellOf g n (Slice a at w) = (a.0 < n) × (1 ≤ w) × (at + w ≤ cell_width g a)
IsCellOf g n (Extend a w) = (a.0 < n) × (cell_width g a < w) × (w ≤ 64)
IsCellOf g n (Reduce k a) = a.0 < n

-- every signal has 1 to 64 bits, and every cell may stand at its place
pub record IsWellFormed (g : Cells) : Type 0 where
  pub signals : (sig : ℕ) (s : Signal) → slice_get g.signals sig ≡ Some s → (1 ≤ s.width) × (s.width ≤ 64)
  pub cells : (n : ℕ) (c : Cell) → slice_get g.cells n ≡ Some c → IsCellOf g n c

-- a bit of a cell of the graph
abbrev pub IsNodeOf : Cells → Node → Type 0
IsNodeOf g n = (n.cell.0 < length g.cells) × (n.at < cell_width g n.cell)

-- a bit of a cell as a bit of its tree
abbrev pub bit_of : Cells → Node → Tree × ℕ
bit_of g n = (tree_of g n.cell, n.at)
