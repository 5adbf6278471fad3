-- The last flops so far are those of the bits so far.
use Rattle.std.proofs.Common.{◌≡◌, map, List}
use Rattle.cdc_model.specs.Listed.{sync_entry}
use Rattle.cdc_model.specs.Schemes.{Sync}
use Rattle.fifo_parts.specs.Brought.{AreSources}
use Rattle.fifo_parts.proofs.Over.{AreBroughtSoFar}
use Rattle.fifo_parts.proofs.brought.brought.Given as goal

abbrev pub invariant-loop-at : goal.invariant-loop-at
invariant-loop-at l = (meant : List Sync) → l.syncs ≡ map sync_entry meant → AreSources meant l.sources.places
    → AreBroughtSoFar l.net l.domains meant l.side.reg.gray l.clock l.side.width l.at l.over l.flops
