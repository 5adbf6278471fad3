-- All synchronizers are those that are there and those of the crossings to come.
use Rattle.std.proofs.Common.{◌≡◌, [], ◌++◌, map, drop}
use Rattle.domains.specs.Nets.{IsNet}
use Rattle.cdc_model.specs.Found.{crossings_of}
use Rattle.cdc_model.specs.Listed.{sync_entry}
use Rattle.cdc_model.specs.Nets.{HasNextCells}
use Rattle.cdc_model.specs.Syncs.{syncs_among}
use Rattle.cdc_model.specs.Tables.{ShowsNet}
use Rattle.two_flop.proofs.syncs_with.Given as goal

abbrev pub invariant-loop-crossing : goal.invariant-loop-crossing
invariant-loop-crossing l = IsNet l.net → HasNextCells l.net → ShowsNet l.net [] l.fn.plain → l.crossings ≡ crossings_of l.net l.domains
    → map sync_entry (syncs_among l.net l.domains l.crossings) ≡ l.syncs ++ map sync_entry (syncs_among l.net l.domains (drop l.crossing-index l.crossings))
