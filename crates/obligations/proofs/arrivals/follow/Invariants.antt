-- The arrivals are those at first, then the copies of those so far.
use Rattle.std.proofs.Common.{◌≡◌, ◌++◌, take}
use Rattle.std.specs.List.{flat_map}
use Rattle.cdc_model.specs.Ordered.{IsAscending}
use Rattle.obligations.specs.Arrivals.{copying_key, copies_of}
use Rattle.obligations.proofs.arrivals.follow.Given as goal

abbrev pub invariant-loop-place : goal.invariant-loop-place
invariant-loop-place l = IsAscending copying_key l.copyings → l.arrivals.items ≡ l.initial.arrivals.items ++ flat_map (copies_of l.copyings) (take l.place l.arrivals.items)
