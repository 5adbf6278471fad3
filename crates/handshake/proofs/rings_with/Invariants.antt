-- All rings are those that are there and those of the pairs to come.
use Rattle.std.proofs.Common.{◌≡◌, ◌++◌, List, map, drop}
use Rattle.domains.specs.Nets.{IsNet}
use Rattle.cdc_model.specs.Listed.{sync_entry, ring_entry}
use Rattle.cdc_model.specs.Nets.{HasNextCells}
use Rattle.cdc_model.specs.Schemes.{Sync}
use Rattle.handshake.specs.Pairs.{AreShort, rings_among}
use Rattle.handshake.proofs.Pairs.{AreOfRegisters}
use Rattle.handshake.proofs.rings_with.Given as goal

abbrev pub invariant-loop-pair : goal.invariant-loop-pair
invariant-loop-pair l = IsNet l.net → HasNextCells l.net → (ss : List Sync) → l.syncs ≡ map sync_entry ss → AreShort ss → AreOfRegisters l.net ss l.pair-items
    → map ring_entry (rings_among l.net ss l.pair-items) ≡ l.rings ++ map ring_entry (rings_among l.net ss (drop l.pair-index l.pair-items))
