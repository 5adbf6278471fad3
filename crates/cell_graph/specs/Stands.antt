-- The signals that stand in a tree.
use Rattle.std.specs.Prelude.{ℕ, Bool, false, ◌||◌, ◌==◌}
use Rattle.cell_graph.specs.Tree.{Tree, Var, Const, Not, And, Or, Xor, Add, Sub, Eq, Lt, Shl, Shr, Mux, Concat, Slice, Extend, ReduceAnd, ReduceOr, ReduceXor}

-- whether the signal stands somewhere in the tree
abbrev pub stands_in : ℕ → Tree → Bool
stands_in s (Var sig w) = s == sig
stands_in s (Const w v) = false
stands_in s (Not a) = stands_in s a
stands_in s (And a b) = stands_in s a || stands_in s b
stands_in s (Or a b) = stands_in s a || stands_in s b
stands_in s (Xor a b) = stands_in s a || stands_in s b
stands_in s (Add a b) = stands_in s a || stands_in s b
stands_in s (Sub a b) = stands_in s a || stands_in s b
stands_in s (Eq a b) = stands_in s a || stands_in s b
stands_in s (Lt a b) = stands_in s a || stands_in s b
stands_in s (Shl a by) = stands_in s a || stands_in s by
stands_in s (Shr a by) = stands_in s a || stands_in s by
stands_in s (Mux c x y) = stands_in s c || (stands_in s x || stands_in s y)
stands_in s (Concat high low) = stands_in s high || stands_in s low
stands_in s (Slice a at w) = stands_in s a
stands_in s (Extend a w) = stands_in s a
stands_in s (ReduceAnd a) = stands_in s a
stands_in s (ReduceOr a) = stands_in s a
stands_in s (ReduceXor a) = stands_in s a
