-- What is looked for on ways, as lists of bits, nodes and guards.
use Rattle.std.specs.Prelude.{◌≡◌, ◌↔◌, ℕ, Bool, true, List, length, Some, slice_get}
use Rattle.std.specs.List.{Contains}
use Rattle.cdc_base.specs.declared.bit.Bit.{Bit}
use Rattle.cell_graph.specs.declared.cell.CellId.{CellId}
use Rattle.cell_graph.specs.declared.cell.Node.{Node}
use Rattle.cell_graph.specs.Below.{IsBelow, IsClosed, AreIn, AreAscending}
use Rattle.cell_graph.specs.Cells.{Cells}
use Rattle.cell_graph.specs.Unfolded.{IsNodeOf, tree_of}
use Rattle.fifo_laws.specs.Ways.{Marks}
use Rattle.fifo_ways.specs.declared.sought.Guard.{Guard}
use Rattle.fifo_ways.specs.declared.sought.Sought.{Sought}
use Rattle.fifo_ways.specs.Guards.{guard_terms, cells_of, IsAsked}
use Rattle.fifo_ways.specs.Judged.{Found}

-- each is a node of the graph
abbrev pub AreNodes : Cells → List Node → Type 0
AreNodes g nodes = (n : Node) → Contains nodes n → IsNodeOf g n

-- The lists say what these marks are below the roots: the words, the reads, and of the guards that are asked for those whose terms have a test.
pub record ShowsMarks (g : Cells) (roots : List Node) (s : Sought) (m : Marks) : Type 0 where
  pub words : (b : Bit) → (Contains s.words b) ↔ m.word b
  pub reads : (n : Node) → IsNodeOf g n → IsBelow g (cells_of roots) n.cell → (Contains s.reads n) ↔ m.read (tree_of g n.cell) n.at
  pub tests : (p : Guard) → IsAsked g s.words roots p → (Contains s.tests p) ↔ m.test (guard_terms g p)

-- of each node whether it is judged true
abbrev pub AreJudged : (Node → Type 0) → List Node → List Bool → Type 0
AreJudged P nodes answers =
    (length answers ≡ length nodes) × ((k : ℕ) (n : Node) (b : Bool) → slice_get nodes k ≡ Some n → slice_get answers k ≡ Some b → (b ≡ true) ↔ P n)

-- Cells with all on which they stand, each behind its operands, on which the roots stand.
pub record AreBelow (g : Cells) (roots : List Node) (cells : List CellId) : Type 0 where
  pub closed : IsClosed g cells
  pub below : (c : CellId) → Contains cells c → IsBelow g (cells_of roots) c
  pub ascending : AreAscending cells
  pub within : AreIn g cells

-- What is found is what is listed.
pub record AreFound (s : Sought) (f : Found) : Type 0 where
  pub words : (b : Bit) → (f.word b ≡ true) ↔ Contains s.words b
  pub reads : (n : Node) → (f.read n ≡ true) ↔ Contains s.reads n
  pub tests : (p : Guard) → (f.test p ≡ true) ↔ Contains s.tests p
