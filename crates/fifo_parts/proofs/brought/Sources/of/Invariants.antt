-- The places of all are those that are kept and those of the synchronizers to come.
use Rattle.std.proofs.Common.{◌≡◌, ◌++◌, drop, map, List}
use Rattle.cdc_base.specs.declared.bit.Bit.{Bit}
use Rattle.cdc_model.specs.Listed.{sync_entry}
use Rattle.cdc_model.specs.Schemes.{Sync}
use Rattle.fifo_parts.specs.Brought.{places_at, places_from}
use Rattle.fifo_parts.proofs.brought.Sources.of.Given as goal

abbrev pub invariant-loop-place : goal.invariant-loop-place
invariant-loop-place l = (meant : List Sync) → l.syncs ≡ map sync_entry meant → (b : Bit)
    → places_from b 0 meant ≡ places_at l.places b ++ places_from b l.place (drop l.place meant)
