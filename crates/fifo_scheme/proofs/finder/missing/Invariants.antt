-- Each pair so far stands for a FIFO.
use Rattle.fifo_scheme.proofs.Standing.{AreThereBelow}
use Rattle.fifo_scheme.proofs.finder.missing.Given as goal

abbrev pub invariant-loop-place : goal.invariant-loop-place
invariant-loop-place l = AreThereBelow l.fifos l.pairs l.place
