use Rattle.std.proofs.Common.{◌≡◌, ◌++◌, drop, map}
use Rattle.net_verdict.specs.Judged.{pair_of}
use Rattle.net_verdict.proofs.counts_of.Given as goal

abbrev pub invariant-loop-fifo : goal.invariant-loop-fifo
invariant-loop-fifo l = map pair_of l.fifos ≡ l.counts ++ map pair_of (drop l.fifo-index l.fifos)
