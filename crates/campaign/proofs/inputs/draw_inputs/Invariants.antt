use Rattle.std.proofs.Common.{◌≡◌, drop}
use Rattle.settling_sim.specs.Trial.{register_ticks}
use Rattle.campaign.specs.Tested.{behind_passing, put_drawn}
use Rattle.campaign.proofs.inputs.draw_inputs.Given as goal

abbrev pub invariant-loop-sig : goal.invariant-loop-sig
invariant-loop-sig l = record {
  rng : behind_passing (register_ticks l.domains l.ticking) l.inputs l.initial.rng ≡ behind_passing (register_ticks l.domains l.ticking) (drop l.sig-index l.inputs) l.rng;
  drawn : put_drawn (register_ticks l.domains l.ticking) l.inputs l.initial.rng l.initial.drawn ≡ put_drawn (register_ticks l.domains l.ticking) (drop l.sig-index l.inputs) l.rng l.drawn;
}
