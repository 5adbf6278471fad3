-- Nodes on ways down from other nodes.
use Rattle.std.specs.Prelude.{◌≡◌, ℕ, true, List, Some, slice_get}
use Rattle.std.specs.List.{Contains}
use Rattle.std.specs.HashSet as set
use Rattle.std.specs.HashSet.{HashSet}
use Rattle.cell_graph.specs.declared.cell.Node.{Node}
use Rattle.cell_graph.specs.Cells.{Cells, cell_at}
use Rattle.cell_graph.specs.Feeds.{feeds_of}
use Rattle.fifo_ways.specs.Marked.{same_node}

-- m is a feed of n
abbrev pub IsFeedOf : Cells → Node → Node → Type 0
IsFeedOf g n m = Contains (feeds_of g (cell_at g n.cell) n.at) m

-- a node on a way down from a root: a root, or a feed of such a node
pub data IsFed (g : Cells) (roots : List Node) : Node → Type 0 where
  first : {n : Node} → Contains roots n → IsFed g roots n
  below : {n m : Node} → IsFed g roots n → IsFeedOf g n m → IsFed g roots m

-- the nodes keep their places where more are added
abbrev pub KeepPlaces : List Node → List Node → Type 0
KeepPlaces old new = (k : ℕ) (n : Node) → slice_get old k ≡ Some n → slice_get new k ≡ Some n

-- a node that is in the set is in the list
abbrev pub AreListed : {S : Type 0} → HashSet Node S → List Node → Type 0
AreListed met nodes = (n : Node) → set.contains same_node met n ≡ true → Contains nodes n
