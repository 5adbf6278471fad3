-- The roots so far were met, and nothing else.
use Rattle.std.proofs.Common.{take}
use Rattle.std.specs.List.{Contains}
use Rattle.cell_graph.specs.declared.cell.Node.{Node}
use Rattle.fifo_ways.proofs.reach.Fed.of_roots.Given as goal

abbrev pub invariant-loop-root : goal.invariant-loop-root
invariant-loop-root l = record {
  there : (n : Node) → Contains (take l.root-index l.roots) n → Contains l.fed n;
  only : (n : Node) → Contains l.fed n → Contains l.roots n;
}
