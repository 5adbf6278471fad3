-- The first flop of one synchronizer more.
use Rattle.std.proofs.Common.{◌≡◌, ◌∙◌, ◌+◌, ◌++◌, ◌∷◌, [], rules, sym, ap, Some, List, map, drop, slice_get}
use Rattle.cdc_base.specs.declared.bit.Bit.{Bit}
use Rattle.cdc_model.specs.declared.scheme.Arrival.{Arrival}
use Rattle.cdc_model.specs.declared.scheme.Sync.{Sync as SyncEntry}
use Rattle.cdc_model.specs.Listed.{sync_entry}
use Rattle.obligations.specs.Arrivals.{first_arrival}
use Rattle.obligations.proofs.Lists.{item_of, one_more}
use Rattle.obligations.proofs.arrivals.first_arrivals.Goals as goal
use Rattle.obligations.proofs.arrivals.first_arrivals.Goals.{in-Some+in_ok-map_err, in_default}

pub loop-sync-preserved : goal.loop-sync-preserved
loop-sync-preserved c = λ ss are.
    let i = c.loop-sync.sync-index in
    let t = item_of sync_entry c.args.syncs.now ss i c.sync-item.result are c.loop-sync-test.true c.sync-item.is in
    let first : c.first_flop.result ≡ Some t.0.first = c.first_flop.ensures ∙ ap (λ (x : SyncEntry). slice_get x.flops 0) t.1 in
    let more = one_more first_arrival ss (map first_arrival ss) c.loop-sync.arrivals.items i t.0 t.2 (c.loop-sync.invariant ss are) in
    elim c.match-first_flop.branch [
      | in-Some+in_ok-map_err w ↦
          let bit : w.in-Some.bit ≡ t.0.first = let e : Some w.in-Some.bit ≡ Some t.0.first = sym w.in-Some.is ∙ first in cc in
          let pushed : c.match-first_flop.arrivals.items ≡ c.loop-sync.arrivals.items ++ record { bit = w.in-Some.bit; source = c.sync-item.result.from; depth = 1 } ∷ [] = search rules in
          let arrival : c.match-first_flop.arrivals.items ≡ c.loop-sync.arrivals.items ++ first_arrival t.0 ∷ [] =
          pushed ∙ ap (λ (b : Bit). c.loop-sync.arrivals.items ++ record { bit = b; source = c.sync-item.result.from; depth = 1 } ∷ []) bit
          ∙ ap (λ (x : SyncEntry). c.loop-sync.arrivals.items ++ record { bit = t.0.first; source = x.from; depth = 1 } ∷ []) t.1 in
          more ∙ ap (λ (xs : List Arrival). xs ++ map first_arrival (drop (i + 1) ss)) (sym arrival)
      | in_default w ↦ absurd (w.in_default.not-Some t.0.first first)
    ]
