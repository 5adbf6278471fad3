-- Each state bit has a place, and no readers stand there yet.
use Rattle.cdc_model.proofs.Noted.{state_placed, nobody_at}
use Rattle.cdc_model.proofs.readers.Readers.empty.Goals as goal

pub returns-in-Ok-clause-places : goal.returns-in-Ok-clause-places
returns-in-Ok-clause-places c = state_placed c.args.signals.now c.in_ok-spans.spans.items c.in_ok-spans.ensures.widths

pub returns-in-Ok-clause-nobody : goal.returns-in-Ok-clause-nobody
returns-in-Ok-clause-nobody c = nobody_at c.in_ok-spans.spans.items c.in-Ok.readers.items c.in_ok-spans.count (c.in-Ok.ensures.items_if_clones_equal (λ y e. e))
