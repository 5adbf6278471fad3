-- The ways so far, and those to come.
use Rattle.std.proofs.Common.{◌≡◌, ◌++◌, drop}
use Rattle.fifo_scheme.specs.Candidates.{ways_of}
use Rattle.fifo_scheme.proofs.finder.ways.Given as goal

abbrev pub invariant-loop-sync : goal.invariant-loop-sync
invariant-loop-sync l = ways_of l.domains l.syncs l.grays ≡ l.ways ++ ways_of l.domains (drop l.sync-index l.syncs) l.grays
