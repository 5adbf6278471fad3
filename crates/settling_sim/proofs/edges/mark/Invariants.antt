use Rattle.std.proofs.Common.{◌≡◌, drop}
use Rattle.settling_sim.specs.Edges.{mark_in}
use Rattle.settling_sim.proofs.edges.mark.Given as goal

abbrev pub invariant-loop-edge : goal.invariant-loop-edge
invariant-loop-edge l = mark_in l.initial.ticking l.edges ≡ mark_in l.ticking (drop l.edge-index l.edges)
