-- The reads at the places so far.
use Rattle.std.proofs.Common.{take}
use Rattle.fifo_scheme.specs.Met.{AreNumbers, ForMet}
use Rattle.fifo_scheme.proofs.MetReads.{AreReadsSoFar}
use Rattle.fifo_scheme.proofs.judge.reads_of.Given as goal

abbrev pub invariant-loop-place : goal.invariant-loop-place
invariant-loop-place l = ForMet l.shown.net.now l.shown.domains.now l.shown.table.now l.index l.pair
    (λ write read. AreNumbers l.shown.net.now l.shown.domains.now write read l.numbers
    → AreReadsSoFar l.shown.net.now l.shown.domains.now l.index write read (take l.place-index l.place-items) l.reads)
