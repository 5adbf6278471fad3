-- All copies are those so far, then those of the copyings that are left.
use Rattle.std.proofs.Common.{◌≡◌, ◌++◌, map, drop}
use Rattle.obligations.specs.Arrivals.{copy_of}
use Rattle.obligations.proofs.arrivals.add_copies.Given as goal

abbrev pub invariant-loop-copying : goal.invariant-loop-copying
invariant-loop-copying l = l.arrivals.items ++ map (copy_of l.arrival) (drop l.copying-index l.copying-items) ≡ l.initial.arrivals.items ++ map (copy_of l.arrival) l.copying-items
