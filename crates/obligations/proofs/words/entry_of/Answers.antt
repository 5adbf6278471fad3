-- The first flop is there, and its group and its clock are those of the domains.
use Rattle.std.proofs.Common.{rules, ◌≡◌, ◌∙◌, ap, Some, slice_get}
use Rattle.cdc_model.specs.declared.scheme.Sync.{Sync as SyncEntry}
use Rattle.obligations.proofs.words.entry_of.Goals as goal

pub returns-in_err-to : goal.returns-in_err-to
returns-in_err-to c = λ s e. let first : c.first_flop.result ≡ Some s.first = c.first_flop.ensures ∙ ap (λ (x : SyncEntry). slice_get x.flops 0) e in search rules

pub returns-in_err-group : goal.returns-in_err-group
returns-in_err-group c = λ s e. let first : c.first_flop.result ≡ Some s.first = c.first_flop.ensures ∙ ap (λ (x : SyncEntry). slice_get x.flops 0) e in search rules

pub returns : goal.returns
returns c = λ s e. let first : c.first_flop.result ≡ Some s.first = c.first_flop.ensures ∙ ap (λ (x : SyncEntry). slice_get x.flops 0) e in search rules
