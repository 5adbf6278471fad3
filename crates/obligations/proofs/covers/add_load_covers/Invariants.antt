-- All covers of loads are those that are there and those of the loads to come.
use Rattle.std.proofs.Common.{◌≡◌, ◌++◌, map, drop}
use Rattle.obligations.specs.Covers.{cover_by_load}
use Rattle.obligations.proofs.covers.add_load_covers.Given as goal

abbrev pub invariant-loop-load : goal.invariant-loop-load
invariant-loop-load l = l.initial.covers.items ++ map cover_by_load l.loads ≡ l.covers.items ++ map cover_by_load (drop l.load-index l.loads)
