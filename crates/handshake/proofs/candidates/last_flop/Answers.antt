-- The last flop is the last of the list.
use Rattle.std.proofs.Common.{◌∙◌, ap, ◌-◌, length, slice_get}
use Rattle.cdc_model.specs.declared.scheme.Sync.{Sync as SyncEntry}
use Rattle.handshake.proofs.Pairs.{some_is, last_there}
use Rattle.handshake.proofs.candidates.last_flop.Goals as goal

pub returns-in-Some : goal.returns-in-Some
returns-in-Some c = λ s e.
    some_is c.in-Some.last.now _ (c.in-Some.ensures.value ∙ ap (λ xs. slice_get xs (length xs - 1)) (c.as_slice.ensures ∙ ap (λ (x : SyncEntry). x.flops) e) ∙ last_there s.first s.more)
