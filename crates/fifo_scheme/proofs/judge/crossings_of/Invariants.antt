-- The crossings to the readers so far, and those to come.
use Rattle.std.proofs.Common.{◌≡◌, ◌++◌, drop}
use Rattle.std.specs.HashSet as set
use Rattle.fifo_ways.specs.Marked.{same_bit}
use Rattle.fifo_scheme.specs.Met.{crossings_at}
use Rattle.fifo_scheme.proofs.judge.crossings_of.Given as goal

abbrev pub invariant-loop-place : goal.invariant-loop-place
invariant-loop-place l = crossings_at (set.contains same_bit l.words) l.index.readings l.readers
    ≡ l.crossings ++ crossings_at (set.contains same_bit l.words) l.index.readings (drop l.place-index l.readers)
