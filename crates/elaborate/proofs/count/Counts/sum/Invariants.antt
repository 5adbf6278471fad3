use Rattle.std.proofs.Common.{◌≡◌, ◌+◌, ◌≤◌, drop}
use Rattle.elaborate.specs.Counts.{added, capped}
use Rattle.elaborate.proofs.count.Counts.sum.Given as goal

abbrev pub invariant-loop-vertex : goal.invariant-loop-vertex
invariant-loop-vertex l = record {
  small : l.cells ≤ 4294967295;
  summed : capped (l.cells + added l.self.cells.items (drop l.vertex-index l.vertices)) ≡ capped (added l.self.cells.items l.vertices);
}
