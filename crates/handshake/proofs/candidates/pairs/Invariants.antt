-- The pairs of the synchronizers so far are there.
use Rattle.std.proofs.Common.{◌≡◌, ◌⊎◌, ◌↔◌, [], List, map, Contains}
use Rattle.domains.specs.Nets.{IsNet}
use Rattle.cdc_model.specs.Listed.{sync_entry}
use Rattle.cdc_model.specs.Nets.{HasNextCells}
use Rattle.cdc_model.specs.Schemes.{Sync}
use Rattle.cdc_model.specs.Tables.{ShowsNet}
use Rattle.handshake.specs.declared.candidates.Pair.{Pair}
use Rattle.handshake.specs.Pairs.{HaveOwnEnds, AreSourcesWithin, IsPairFrom}
use Rattle.handshake.proofs.Pairs.{HasOneBelow}
use Rattle.handshake.proofs.candidates.pairs.Given as goal

abbrev pub invariant-loop-there : goal.invariant-loop-there
invariant-loop-there l = record {
  same : l.table ≡ l.initial.table;
  found : IsNet l.net → HasNextCells l.net → ShowsNet l.net [] l.initial.table → (ss : List Sync) → l.syncs ≡ map sync_entry ss → HaveOwnEnds ss → AreSourcesWithin l.net ss
      → (p : Pair) → Contains l.found.items p ↔ (Contains l.initial.found.items p ⊎ HasOneBelow l.there (λ i. IsPairFrom l.net l.domains ss i p));
}
