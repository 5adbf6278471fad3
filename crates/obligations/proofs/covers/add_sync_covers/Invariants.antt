-- All covers of synchronizers are those that are there and those of the synchronizers to come.
use Rattle.std.proofs.Common.{◌≡◌, ◌++◌, List, map, drop}
use Rattle.cdc_model.specs.Listed.{sync_entry}
use Rattle.cdc_model.specs.Ordered.{IsAscending}
use Rattle.cdc_model.specs.Schemes.{Sync}
use Rattle.cdc_model.specs.Verdict.{gray_key}
use Rattle.obligations.specs.Covers.{cover_by_sync, AreFew}
use Rattle.obligations.proofs.covers.add_sync_covers.Given as goal

abbrev pub invariant-loop-sync : goal.invariant-loop-sync
invariant-loop-sync l = (list : List Sync) → l.syncs ≡ map sync_entry list → IsAscending gray_key l.grays → AreFew list
    → l.initial.covers.items ++ map (cover_by_sync l.grays) list ≡ l.covers.items ++ map (cover_by_sync l.grays) (drop l.sync-index list)
