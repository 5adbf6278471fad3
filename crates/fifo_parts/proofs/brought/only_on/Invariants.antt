-- What is found is the only one so far, if any.
use Rattle.std.proofs.Common.{◌≡◌, drop, map, List, option_map}
use Rattle.cdc_model.specs.Listed.{sync_entry}
use Rattle.cdc_model.specs.Schemes.{Sync}
use Rattle.fifo_parts.specs.Brought.{is_on}
use Rattle.fifo_parts.proofs.Only.{IsOnlySoFar}
use Rattle.fifo_parts.proofs.brought.only_on.Given as goal

abbrev pub invariant-loop-place : goal.invariant-loop-place
invariant-loop-place l = (meant : List Sync) → l.syncs ≡ map sync_entry meant
    → IsOnlySoFar (is_on l.net l.domains l.clock) meant l.places (drop l.place-index l.places) (option_map (λ s. s.now) l.found)
