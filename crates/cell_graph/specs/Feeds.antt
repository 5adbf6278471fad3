-- Which bits make a bit of a cell.
use Rattle.std.specs.Prelude.{ℕ, zero, suc, ◌+◌, ◌-◌, cond, nat_lt, List, [], ◌∷◌, ◌++◌, Option, Some, None}
use Rattle.cell_graph.specs.declared.cell.Cell.{Cell}
use Rattle.cell_graph.specs.declared.cell.Cell.TheVariants.{Var, Const, Not, And, Or, Xor, Add, Sub, Eq, Lt, Shl, Shr, Mux, Concat, Slice, Extend, Reduce}
use Rattle.cell_graph.specs.declared.cell.CellId.{CellId}
use Rattle.cell_graph.specs.declared.cell.Node.{Node}
use Rattle.cell_graph.specs.declared.feeds.Passed.{Passed}
use Rattle.cell_graph.specs.declared.feeds.Passed.TheVariants.{Bit, Zero, Other}
use Rattle.cell_graph.specs.Cells.{Cells, cell_at, cell_width}

abbrev pub node : CellId → ℕ → Node
node c i = record { cell = c; at = i }

-- a bit of a cell, and zero above its width
abbrev pub bit_or_zero : Cells → CellId → ℕ → Passed
bit_or_zero g c i = cond (nat_lt i (cell_width g c)) (Bit (node c i)) Zero

-- bit i of a cell that is moved up, or down, by n places
abbrev pub moved_up : Cells → CellId → ℕ → ℕ → Passed
moved_up g a i n = cond (nat_lt i n) Zero (bit_or_zero g a (i - n))

abbrev pub moved_down : Cells → CellId → ℕ → ℕ → Passed
moved_down g a i n = bit_or_zero g a (i + n)

-- the value of a constant
abbrev pub constant : Cell → Option ℕ
constant (Const w value) = Some value
constant c = None

abbrev pub by_constant : Option ℕ → (ℕ → Passed) → Passed
by_constant (Some n) moved = moved n
by_constant None moved = Other

-- the bit that a bit of a cell is, where the cell only moves bits
abbrev pub passed_by : Cells → Cell → ℕ → Passed
passed_by g (Concat high low) i = cond (nat_lt i (cell_width g low)) (Bit (node low i)) (Bit (node high (i - cell_width g low)))
passed_by g (Slice a at w) i = bit_or_zero g a (at + i)
passed_by g (Extend a w) i = bit_or_zero g a i
passed_by g (Shl a by) i = by_constant (constant (cell_at g by)) (moved_up g a i)
passed_by g (Shr a by) i = by_constant (constant (cell_at g by)) (moved_down g a i)
passed_by g c i = Other

-- n bits from bit i on: of a cell, and of two cells in pairs
abbrev pub bits_from : CellId → ℕ → ℕ → List Node
bits_from a i zero = []
bits_from a i (suc n) = node a i ∷ bits_from a (suc i) n

abbrev pub pairs_from : CellId → CellId → ℕ → ℕ → List Node
pairs_from a b i zero = []
pairs_from a b i (suc n) = node a i ∷ node b i ∷ pairs_from a b (suc i) n

abbrev pub all_bits : Cells → CellId → List Node
all_bits g a = bits_from a 0 (cell_width g a)

-- the bit that is passed, or none; where a cell does more than to move bits, the feeds that it then has
abbrev pub feeds_passed : Passed → List Node → List Node
feeds_passed (Bit n) others = n ∷ []
feeds_passed Zero others = []
feeds_passed Other others = others

-- the feeds of bit i of a cell, in their order
abbrev pub feeds_of : Cells → Cell → ℕ → List Node
feeds_of g (Var sig) i = []
feeds_of g (Const w value) i = []
feeds_of g (Not a) i = node a i ∷ []
feeds_of g (And a b) i = node a i ∷ node b i ∷ []
feeds_of g (Or a b) i = node a i ∷ node b i ∷ []
feeds_of g (Xor a b) i = node a i ∷ node b i ∷ []
feeds_of g (Add a b) i = pairs_from a b 0 (i + 1)
feeds_of g (Sub a b) i = pairs_from a b 0 (i + 1)
feeds_of g (Eq a b) i = pairs_from a b 0 (cell_width g a)
feeds_of g (Lt a b) i = pairs_from a b 0 (cell_width g a)
feeds_of g (Shl a by) i = feeds_passed (passed_by g (Shl a by) i) (all_bits g a ++ all_bits g by)
feeds_of g (Shr a by) i = feeds_passed (passed_by g (Shr a by) i) (all_bits g a ++ all_bits g by)
feeds_of g (Mux c x y) i = node c 0 ∷ node x i ∷ node y i ∷ []
feeds_of g (Concat high low) i = feeds_passed (passed_by g (Concat high low) i) []
feeds_of g (Slice a at w) i = feeds_passed (passed_by g (Slice a at w) i) []
feeds_of g (Extend a w) i = feeds_passed (passed_by g (Extend a w) i) []
feeds_of g (Reduce kind a) i = all_bits g a
