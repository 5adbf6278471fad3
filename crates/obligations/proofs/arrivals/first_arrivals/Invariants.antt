-- The first arrivals of all synchronizers are those so far, then those of the synchronizers that are left.
use Rattle.std.proofs.Common.{◌≡◌, ◌++◌, List, map, drop}
use Rattle.cdc_model.specs.Listed.{sync_entry}
use Rattle.cdc_model.specs.Schemes.{Sync}
use Rattle.obligations.specs.Arrivals.{first_arrival}
use Rattle.obligations.proofs.arrivals.first_arrivals.Given as goal

abbrev pub invariant-loop-sync : goal.invariant-loop-sync
invariant-loop-sync l = (ss : List Sync) → l.syncs ≡ map sync_entry ss → map first_arrival ss ≡ l.arrivals.items ++ map first_arrival (drop l.sync-index ss)
