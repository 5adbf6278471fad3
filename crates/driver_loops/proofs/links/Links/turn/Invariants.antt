use Rattle.driver_loops.proofs.Turned.{AreTurned}
use Rattle.driver_loops.proofs.links.Links.turn.Given as goal

abbrev pub invariant-loop-end : goal.invariant-loop-end
invariant-loop-end l = AreTurned l.end-items l.count l.vertex l.initial.turned.items l.end-index l.turned.items
