use Rattle.driver_loops.proofs.Turned.{AreAllTurned}
use Rattle.driver_loops.proofs.links.Links.reversed.Given as goal

abbrev pub invariant-loop-vertex : goal.invariant-loop-vertex
invariant-loop-vertex l = AreAllTurned l.self l.vertices l.vertex-index l.turned.items
