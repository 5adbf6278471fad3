use Rattle.std.proofs.Common.{◌≡◌, length}
use Rattle.driver_loops.proofs.Members.{AreMarkedUpTo}
use Rattle.driver_loops.proofs.walk.mark_all.Given as goal

abbrev pub invariant-loop-vertex : goal.invariant-loop-vertex
invariant-loop-vertex l = record {
  size : length l.marks.items ≡ length l.initial.marks.items;
  exact : AreMarkedUpTo l.initial.marks.items l.vertices l.vertex-index l.marks.items;
}
