use Rattle.std.proofs.Common.{take}
use Rattle.std.specs.List.{Contains}
use Rattle.cell_graph.specs.declared.cell.CellId.{CellId}
use Rattle.cell_graph.proofs.cone.Cone.of_roots.Given as goal

abbrev pub invariant-loop-root : goal.invariant-loop-root
invariant-loop-root l = record {
  there : (c : CellId) → Contains (take l.root-index l.roots) c → Contains l.cone c;
  only : (c : CellId) → Contains l.cone c → Contains l.roots c;
}
