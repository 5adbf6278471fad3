-- The trees of a net's registers and outputs.
use Rattle.std.specs.Prelude.{All, ◌≡◌, ◌<◌, length, map}
use Rattle.cell_graph.specs.declared.net.Net.{Net}
use Rattle.cell_graph.specs.declared.net.Reg.{Reg}
use Rattle.cell_graph.specs.Cells.{Cells}
use Rattle.cell_graph.specs.Unfolded as graph
use Rattle.flat_meaning.specs.Design.{Flat}
use Rattle.flat_meaning.specs.SignalTrees.{clock_tree_of, next_tree_of, tree_of}
use Rattle.flat_meaning.specs.Trees.{Selects}

-- a register's cells have the trees of its next value and of its clock
pub record IsRegisterOf (f : Flat) (sel : Selects) (g : Cells) (r : Reg) : Type 0 where
  pub next_stands : r.next.0 < length g.cells
  pub clock_stands : r.clock.0 < length g.cells
  pub next : graph.tree_of g r.next ≡ next_tree_of f sel r.sig
  pub clock : graph.tree_of g r.clock ≡ clock_tree_of f sel r.sig

-- the net's cells have the trees of the design's registers and outputs
pub record HasTrees (f : Flat) (sel : Selects) (net : Net) : Type 0 where
  pub registers : All (IsRegisterOf f sel net.graph) net.regs
  pub outputs : map (graph.tree_of net.graph) net.outputs ≡ map (tree_of f sel) f.outputs
