use Rattle.std.proofs.Common.{◌≡◌, drop}
use Rattle.settling_sim.specs.Words.{flip_in}
use Rattle.settling_sim.proofs.word.flip.Given as goal

abbrev pub invariant-loop-bit : goal.invariant-loop-bit
invariant-loop-bit l = flip_in l.words l.initial.flipped l.bits ≡ flip_in l.words l.flipped (drop l.bit-index l.bits)
