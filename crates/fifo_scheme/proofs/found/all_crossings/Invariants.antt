-- What is there are the crossings of the FIFOs so far.
use Rattle.std.proofs.Common.{◌≡◌, ◌++◌, drop}
use Rattle.fifo_scheme.specs.Ended.{all_ended}
use Rattle.fifo_scheme.proofs.found.all_crossings.Given as goal

abbrev pub invariant-loop-fifo : goal.invariant-loop-fifo
invariant-loop-fifo l = all_ended l.fifos ≡ l.ended.items ++ all_ended (drop l.fifo-index l.fifos)
