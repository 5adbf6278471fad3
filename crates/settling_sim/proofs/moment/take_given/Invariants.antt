use Rattle.std.proofs.Common.{◌≡◌, drop}
use Rattle.settling_sim.specs.Trial.{take_given}
use Rattle.settling_sim.proofs.moment.take_given.Given as goal

abbrev pub invariant-loop-value : goal.invariant-loop-value
invariant-loop-value l = take_given l.given l.initial.words ≡ take_given (drop l.value-index l.given) l.words
