-- Selects that say what they read, and the bits that a tree over them reads.
use Rattle.std.specs.Prelude.{ℕ}
use Rattle.cell_graph.specs.Tree.{Tree, Var, Const, Not, And, Or, Xor, Add, Sub, Eq, Lt, Shl, Shr, Mux, Concat, Slice, Extend, ReduceAnd, ReduceOr, ReduceXor}
use Rattle.flat_meaning.specs.Trees.{Selects}
use Rattle.flat_meaning.specs.Deps.{Bits, none, union, span}

-- a select as a slice of its signal, whole or not
abbrev pub marked : Selects
marked s at w = Slice (Var s 64) at w

-- the bits of a slice of a signal are those of the slice; any other slice has its operand's, whatever it cuts off
abbrev pub sliced : Tree → (at width : ℕ) → Bits → Bits
sliced (Var s n) at w below = span s at w
sliced t at w below = below

-- the bits that a tree over marked selects reads
abbrev pub marks : Tree → Bits
marks (Var s n) = none
marks (Const w v) = none
marks (Not a) = marks a
marks (And a b) = union (marks a) (marks b)
marks (Or a b) = union (marks a) (marks b)
marks (Xor a b) = union (marks a) (marks b)
marks (Add a b) = union (marks a) (marks b)
marks (Sub a b) = union (marks a) (marks b)
marks (Eq a b) = union (marks a) (marks b)
marks (Lt a b) = union (marks a) (marks b)
marks (Shl a by) = union (marks a) (marks by)
marks (Shr a by) = union (marks a) (marks by)
marks (Mux c x y) = union (marks c) (union (marks x) (marks y))
marks (Concat high low) = union (marks high) (marks low)
marks (Slice a at w) = sliced a at w (marks a)
marks (Extend a w) = marks a
marks (ReduceAnd a) = marks a
marks (ReduceOr a) = marks a
marks (ReduceXor a) = marks a
