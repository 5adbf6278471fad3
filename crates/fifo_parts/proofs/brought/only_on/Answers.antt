-- The first that is found.
use Rattle.std.proofs.Common.{◌∙◌, ◌+◌, sym, ap, subst, Some, option_map, slice_get, get_or, drop, Bor}
use Rattle.cdc_model.specs.declared.scheme.Sync.{Sync as SyncEntry}
use Rattle.fifo_parts.specs.Brought.{is_on, tested}
use Rattle.fifo_parts.proofs.Only.{IsOnlySoFar, none_now, one_entry, only_found}
use Rattle.fifo_parts.proofs.brought.only_on.Goals as goal

pub loop-place-preserved : goal.loop-place-preserved
loop-place-preserved c = λ meant e.
    let test = is_on c.args.net.now c.args.domains.now c.args.clock in
    let places = c.args.places.now in
    let i = c.loop-place.place-index in
    let o = option_map (λ (r : Bor SyncEntry). r.now) c.loop-place.found in
    let h = one_entry (tested test (slice_get meant (get_or places i 0))) c.in-Some.sync.now
    (sym (ap (option_map (λ (r : Bor SyncEntry). r.now)) c.in-Some.is) ∙ c.sync_on.ensures meant e) in
    subst (λ x. IsOnlySoFar test meant places (drop (i + 1) places) (Some x)) (sym h.2)
    (only_found test meant places i c.loop-place-test.true o (c.loop-place.invariant meant e) h.0 h.1
    (none_now c.loop-place.found (sym c.is_some.ensures ∙ c.if-is_some.false)))
