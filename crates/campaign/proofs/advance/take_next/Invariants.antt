use Rattle.std.proofs.Common.{◌≡◌, ◌<◌, drop}
use Rattle.settling_sim.specs.Trial.{take_next}
use Rattle.campaign.specs.Lanes.{lane}
use Rattle.campaign.proofs.advance.take_next.Given as goal

abbrev pub invariant-loop-reg : goal.invariant-loop-reg
invariant-loop-reg l = l.index < 8 → take_next l.domains l.ticking (lane l.index l.cells) l.regs l.initial.words
    ≡ take_next l.domains l.ticking (lane l.index l.cells) (drop l.reg-index l.regs) l.words
