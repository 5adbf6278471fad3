-- Printed names of bits, signals, groups and nodes of a net.
use Rattle.std.specs.Prelude.{ℕ, List, [], ◌∷◌, ◌++◌, codes, slice_get, unwrap_or}
use Rattle.std.specs.Option.{option_map_or}
use Rattle.std.specs.Fmt.{decimal}
use Rattle.cdc_base.specs.declared.bit.Bit.{Bit}
use Rattle.cdc_base.specs.declared.signal.Signal.{Signal}
use Rattle.cdc_base.specs.Bits.{bit_text}
use Rattle.cell_graph.specs.declared.cell.Cell.{Cell}
use Rattle.cell_graph.specs.declared.cell.Cell.TheVariants.{Var, Const, Not, And, Or, Xor, Add, Sub, Eq, Lt, Shl, Shr, Mux, Concat, Slice, Extend, Reduce}
use Rattle.cell_graph.specs.declared.cell.Node.{Node}
use Rattle.cell_graph.specs.declared.cell.ReduceKind.{ReduceKind}
use Rattle.cell_graph.specs.declared.cell.ReduceKind.TheVariants as reduce
use Rattle.cell_graph.specs.Cells.{Cells, cell_at}

abbrev pub bit_of : List Signal → Bit → List ℕ
bit_of signals b = option_map_or (λ s. bit_text s b.at) (slice_get signals b.sig) []

abbrev pub signal_of : List Signal → ℕ → List ℕ
signal_of signals sig = option_map_or (λ s. s.name) (slice_get signals sig) []

abbrev pub group_of : List (List ℕ) → ℕ → List ℕ
group_of groups group = unwrap_or (slice_get groups group) []

-- each bit behind a space
abbrev pub spaced : List Signal → List Bit → List ℕ
spaced signals [] = []
spaced signals (b ∷ bs) = (codes " " ++ bit_of signals b) ++ spaced signals bs

-- the bits, separated by spaces
abbrev pub bits_of : List Signal → List Bit → List ℕ
bits_of signals [] = []
bits_of signals (b ∷ bs) = bit_of signals b ++ spaced signals bs

abbrev pub reduction_of : ReduceKind → List ℕ
reduction_of reduce.And = codes "ReduceAnd"
reduction_of reduce.Or = codes "ReduceOr"
reduction_of reduce.Xor = codes "ReduceXor"

abbrev pub kind_of : Cell → List ℕ
kind_of (Var sig) = codes "Var"
kind_of (Const width value) = codes "Const"
kind_of (Not a) = codes "Not"
kind_of (And a b) = codes "And"
kind_of (Or a b) = codes "Or"
kind_of (Xor a b) = codes "Xor"
kind_of (Add a b) = codes "Add"
kind_of (Sub a b) = codes "Sub"
kind_of (Eq a b) = codes "Eq"
kind_of (Lt a b) = codes "Lt"
kind_of (Shl a by) = codes "Shl"
kind_of (Shr a by) = codes "Shr"
kind_of (Mux c a b) = codes "Mux"
kind_of (Concat high low) = codes "Concat"
kind_of (Slice a at width) = codes "Slice"
kind_of (Extend a width) = codes "Extend"
kind_of (Reduce kind a) = reduction_of kind

abbrev pub cell_bit : Cell → ℕ → List ℕ
cell_bit cell at = kind_of cell ++ codes "[" ++ decimal at ++ codes "]"

-- a bit of a signal by its name, a bit of any other cell by the cell's kind and its place
abbrev pub bit_in : List Signal → Cell → ℕ → List ℕ
bit_in signals (Var sig) at = bit_of signals (record { sig = sig; at = at })
bit_in signals cell at = cell_bit cell at

abbrev pub node_of : Cells → Node → List ℕ
node_of g n = bit_in g.signals (cell_at g n.cell) n.at
