-- The bit that a bit of a tree only passes on.
use Rattle.std.specs.Prelude.{ℕ, ◌+◌, ◌-◌, Bool, false, cond, nat_lt, Option, Some, None}
use Rattle.cell_graph.specs.Reading.{Reading}
use Rattle.cell_graph.specs.Tree.{Tree, Const, Shl, Shr, Concat, Slice, Extend, width, bit_at, bit, number}
use Rattle.cell_graph.specs.Cofactor.{on_number}

-- a bit of a tree, or the zero bit
abbrev pub TreeBit : Type 0
TreeBit = Option (Tree × ℕ)

abbrev pub const_of : Tree → Option ℕ
const_of (Const w v) = Some (number (bit_at v) w)
const_of t = None

-- through concatenations, slices, extensions and shifts by constants, down to another cell
abbrev pub origin : Tree → ℕ → TreeBit
origin (Concat high low) i = cond (nat_lt i (width low)) (origin low i) (origin high (i - width low))
origin (Slice a at w) i = origin a (at + i)
origin (Extend a w) i = cond (nat_lt i (width a)) (origin a i) None
origin (Shl a by) i = on_number (const_of by) (Some (Shl a by, i)) (λ n. cond (nat_lt i n) None (cond (nat_lt (i - n) (width a)) (origin a (i - n)) None))
origin (Shr a by) i = on_number (const_of by) (Some (Shr a by, i)) (λ n. cond (nat_lt (i + n) (width a)) (origin a (i + n)) None)
origin t i = Some (t, i)

abbrev pub tree_bit : Reading → TreeBit → Bool
tree_bit r None = false
tree_bit r (Some n) = bit r n.0 n.1
