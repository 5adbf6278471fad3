use Rattle.driver_loops.proofs.Loops.{AreDone}
use Rattle.driver_loops.proofs.walk.has_loop.Given as goal

abbrev pub invariant-loop-vertex : goal.invariant-loop-vertex
invariant-loop-vertex l = AreDone l.links l.order l.vertex-index l.done.items
