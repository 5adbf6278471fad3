-- The bits so far, and those to come.
use Rattle.std.proofs.Common.{◌≡◌, ◌++◌, drop}
use Rattle.fifo_scheme.specs.Met.{bits_at}
use Rattle.fifo_scheme.proofs.judge.bits_of.Given as goal

abbrev pub invariant-loop-place : goal.invariant-loop-place
invariant-loop-place l = bits_at l.index.readings l.places ≡ l.bits ++ bits_at l.index.readings (drop l.place-index l.places)
