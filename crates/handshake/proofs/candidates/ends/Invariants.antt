-- The places of the synchronizers so far are found by their last flops.
use Rattle.std.proofs.Common.{◌≡◌, List, map}
use Rattle.std.specs.HashMap as hash
use Rattle.cdc_base.specs.declared.bit.Bit.{Bit}
use Rattle.cdc_base.specs.contracts.bit.BitPartialEq.TheImpl as equality
use Rattle.cdc_model.specs.Listed.{sync_entry}
use Rattle.cdc_model.specs.Schemes.{Sync}
use Rattle.handshake.specs.Pairs.{IsPlaceAmong}
use Rattle.handshake.proofs.candidates.ends.Given as goal

abbrev pub invariant-loop-place : goal.invariant-loop-place
invariant-loop-place l = (ss : List Sync) → l.syncs ≡ map sync_entry ss → (b : Bit) → IsPlaceAmong ss l.place b (hash.get equality.ghosts.eq l.ends b)
