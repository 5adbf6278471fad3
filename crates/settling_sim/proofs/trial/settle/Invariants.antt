use Rattle.std.proofs.Common.{◌≡◌, drop}
use Rattle.settling_sim.specs.Trial.{settle}
use Rattle.settling_sim.proofs.trial.settle.Given as goal

abbrev pub invariant-loop-reg : goal.invariant-loop-reg
invariant-loop-reg l = settle l.design.domains.now l.ticking l.reg-items l.initial.cycles
    ≡ settle l.design.domains.now l.ticking (drop l.reg-index l.reg-items) l.cycles
