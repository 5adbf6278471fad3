-- Nodes of a graph as bits of trees: origins, bits of signals, and what is seen through inversions.
use Rattle.std.specs.Prelude.{◌≡◌, ℕ, ◌<◌, Bool, true, false, is_some, Option, Some, None, option_map, []}
use Rattle.cdc_base.specs.declared.bit.Bit.{Bit}
use Rattle.cell_graph.specs.declared.cell.Node.{Node}
use Rattle.cell_graph.specs.Cells.{Cells}
use Rattle.cell_graph.specs.Cofactor.{known}
use Rattle.cell_graph.specs.Nets.{bit_count}
use Rattle.cell_graph.specs.Origin.{TreeBit, const_of, origin}
use Rattle.cell_graph.specs.Tree.{Tree, Var, Shl, Shr, Concat, Slice, Extend}
use Rattle.cell_graph.specs.Unfolded.{IsNodeOf, bit_of, tree_of}
use Rattle.fifo_terms.specs.Terms as rules
use Rattle.fifo_terms.specs.Terms.{inverted_by, as_it_is, bare}
use Rattle.gray_pointer.specs.Words.{IsIn}
use Rattle.fifo_nodes.specs.declared.inversions.Bare.{Bare}
use Rattle.fifo_nodes.specs.declared.inversions.Operand.{Operand}

-- a bit of a signal itself, by the signals of the graph
abbrev pub signal_bit : Cells → Bit → TreeBit
signal_bit g b = Some (Var b.sig (bit_count g.signals b.sig), b.at)

-- the origin of a node that may be the zero bit
abbrev pub origin_in : Cells → Option Node → TreeBit
origin_in g None = None
origin_in g (Some n) = origin (tree_of g n.cell) n.at

-- the cell only passes bits on
abbrev pub passes : Tree → Bool
passes (Concat high low) = true
passes (Slice a at w) = true
passes (Extend a w) = true
passes (Shl a by) = is_some (const_of by)
passes (Shr a by) = is_some (const_of by)
passes t = false

-- a node that is its own origin
abbrev pub IsOwn : Cells → Node → Type 0
IsOwn g n = IsNodeOf g n × (passes (tree_of g n.cell) ≡ false)

-- a node that is its own origin, or the zero bit
abbrev pub IsOwnOrZero : Cells → Option Node → Type 0
IsOwnOrZero g None = Unit {0}
IsOwnOrZero g (Some n) = IsOwn g n

-- a node of a cell before place n, or the zero bit
abbrev pub IsWithin : Cells → ℕ → Option Node → Type 0
IsWithin g n None = Unit {0}
IsWithin g n (Some m) = IsNodeOf g m × (m.cell.0 < n)

-- what a node is known to be
abbrev pub known_of : Cells → Node → Option Bool
known_of g n = known [] (tree_of g n.cell) n.at

-- a node as an operand that is inverted by a value
abbrev pub seen_as : Node → Bool → Option Operand
seen_as n v = Some (record { node = n; inverted = v })

-- what a node is below inversions; the zero bit is as it is
abbrev pub bare_bit : TreeBit → rules.Bare
bare_bit None = as_it_is None
bare_bit (Some n) = bare n.0 n.1

-- the operand that a node is, inverted or as it is, of an earlier cell; or it is bare
abbrev pub IsSeenAs : Cells → Node → Option Operand → Type 0
IsSeenAs g n None = bare (tree_of g n.cell) n.at ≡ as_it_is (Some (bit_of g n))
IsSeenAs g n (Some o) = (bare (tree_of g n.cell) n.at ≡ inverted_by o.inverted (bare (tree_of g o.node.cell) o.node.at)) × IsWithin g n.cell.0 (Some o.node)

-- the bare node, by the graph
abbrev pub IsBareOf : Cells → rules.Bare → Bare → Type 0
IsBareOf g b found = (b.node ≡ option_map (bit_of g) found.node) × (b.inverted ≡ found.inverted) × IsIn g found.node
