use Rattle.std.proofs.Common.{◌≡◌, ◌++◌, drop}
use Rattle.settling_sim.specs.Trial.{register_ticks}
use Rattle.campaign.specs.Tested.{givens_in}
use Rattle.campaign.proofs.inputs.values.Given as goal

abbrev pub invariant-loop-sig : goal.invariant-loop-sig
invariant-loop-sig l = givens_in l.net.graph.signals l.drawn (register_ticks l.domains l.ticking) l.sigs ≡ l.values ++ givens_in l.net.graph.signals l.drawn (register_ticks l.domains l.ticking) (drop l.sig-index l.sigs)
