use Rattle.std.proofs.Common.{◌≡◌, drop}
use Rattle.settling_sim.specs.Trial.{take_next}
use Rattle.settling_sim.proofs.trial.take_next.Given as goal

abbrev pub invariant-loop-reg : goal.invariant-loop-reg
invariant-loop-reg l = take_next l.design.domains.now l.ticking l.values l.reg-items l.initial.words
    ≡ take_next l.design.domains.now l.ticking l.values (drop l.reg-index l.reg-items) l.words
