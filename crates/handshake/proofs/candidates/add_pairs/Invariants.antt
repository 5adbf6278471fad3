-- What was there and the pairs of the bits so far are there.
use Rattle.std.proofs.Common.{◌≡◌, ◌⊎◌, ◌↔◌, Some, List, map, Contains, slice_get}
use Rattle.std.specs.HashMap as hash
use Rattle.cdc_base.specs.declared.bit.Bit.{Bit}
use Rattle.cdc_base.specs.contracts.bit.BitPartialEq.TheImpl as equality
use Rattle.domains.specs.Nets.{IsNet}
use Rattle.cdc_model.specs.Listed.{sync_entry}
use Rattle.cdc_model.specs.Schemes.{Sync}
use Rattle.handshake.specs.declared.candidates.Pair.{Pair}
use Rattle.handshake.specs.Pairs.{IsPlaceOf, HaveOwnEnds, IsPairAt}
use Rattle.handshake.proofs.Pairs.{HasOneBelow}
use Rattle.handshake.proofs.candidates.add_pairs.Given as goal

abbrev pub invariant-loop-bit : goal.invariant-loop-bit
invariant-loop-bit l = IsNet l.net → (ss : List Sync) → l.syncs ≡ map sync_entry ss → HaveOwnEnds ss → ((b : Bit) → IsPlaceOf ss b (hash.get equality.ghosts.eq l.ends b))
    → (p : Pair) → Contains l.found.items p ↔ (Contains l.initial.found.items p ⊎ HasOneBelow l.bit-index (λ i. (b : Bit) × (slice_get l.bit-items i ≡ Some b) × IsPairAt l.net l.domains ss l.there b p))
