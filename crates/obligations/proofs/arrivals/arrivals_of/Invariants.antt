-- All arrivals of the lot are those so far, then those of the rest.
use Rattle.std.proofs.Common.{◌≡◌, ◌++◌, map, drop}
use Rattle.obligations.specs.Arrivals.{arrival_of}
use Rattle.obligations.proofs.arrivals.arrivals_of.Given as goal

abbrev pub invariant-loop-read : goal.invariant-loop-read
invariant-loop-read l = map arrival_of l.lot ≡ l.arrivals ++ map arrival_of (drop l.read-index l.lot)
