-- Nodes that may read words.
use Rattle.std.specs.Prelude.{Bool, true, false, ◌&&◌}
use Rattle.std.specs.HashSet as set
use Rattle.std.specs.HashSet.{HashSet}
use Rattle.cell_graph.specs.declared.cell.Cell.{Cell}
use Rattle.cell_graph.specs.declared.cell.Cell.TheVariants.{Var, Const, Not, And, Or, Xor, Add, Sub, Eq, Lt, Shl, Shr, Mux, Concat, Slice, Extend, Reduce}
use Rattle.cell_graph.specs.declared.cell.Node.{Node}
use Rattle.cell_graph.specs.Cells.{Cells, cell_at}
use Rattle.fifo_ways.specs.Marked.{same_node}

-- the cell is a multiplexer, as a fact and as a test
abbrev pub IsMux : Cell → Type 0
IsMux (Var sig) = ⊥
IsMux (Const w value) = ⊥
IsMux (Not a) = ⊥
IsMux (And a b) = ⊥
IsMux (Or a b) = ⊥
IsMux (Xor a b) = ⊥
IsMux (Add a b) = ⊥
IsMux (Sub a b) = ⊥
IsMux (Eq a b) = ⊥
IsMux (Lt a b) = ⊥
IsMux (Shl a by) = ⊥
IsMux (Shr a by) = ⊥
IsMux (Mux c x y) = Unit {0}
IsMux (Concat high low) = ⊥
IsMux (Slice a at w) = ⊥
IsMux (Extend a w) = ⊥
IsMux (Reduce kind a) = ⊥

abbrev pub is_mux : Cell → Bool
is_mux (Var sig) = false
is_mux (Const w value) = false
is_mux (Not a) = false
is_mux (And a b) = false
is_mux (Or a b) = false
is_mux (Xor a b) = false
is_mux (Add a b) = false
is_mux (Sub a b) = false
is_mux (Eq a b) = false
is_mux (Lt a b) = false
is_mux (Shl a by) = false
is_mux (Shr a by) = false
is_mux (Mux c x y) = true
is_mux (Concat high low) = false
is_mux (Slice a at w) = false
is_mux (Extend a w) = false
is_mux (Reduce kind a) = false

-- a multiplexer's node that is in the set
abbrev pub is_sought_read : {S : Type 0} → Cells → HashSet Node S → Node → Bool
is_sought_read g sought n = is_mux (cell_at g n.cell) && set.contains same_node sought n
