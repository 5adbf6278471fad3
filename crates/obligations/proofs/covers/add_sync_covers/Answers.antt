-- The cover of one synchronizer more.
use Rattle.std.proofs.Common.{◌≡◌, ◌∙◌, sym, ap, subst, rules, ◌++◌, ◌∷◌, [], List, map, drop, ◌+◌, ◌≤◌, length, Some}
use Rattle.std.proofs.lemmas.List.{length-map}
use Rattle.cdc_model.specs.declared.scheme.Cover.{Cover}
use Rattle.cdc_model.specs.Listed.{sync_entry}
use Rattle.cdc_model.proofs.Justify.{slice_in}
use Rattle.obligations.specs.Covers.{cover_by_sync}
use Rattle.obligations.proofs.Lists.{item_of, one_more, no_more}
use Rattle.obligations.proofs.covers.add_sync_covers.Goals as goal
use Rattle.obligations.proofs.covers.add_sync_covers.Goals.{in-Some+in_ok-map_err, in_default}

pub loop-sync-preserved : goal.loop-sync-preserved
loop-sync-preserved c = λ list same up few.
    let i = c.loop-sync.sync-index in
    let grays = c.args.grays.now in
    let t = item_of sync_entry c.args.syncs.now list i c.sync-item.result same c.loop-sync-test.true c.sync-item.is in
    let is = c.cover_of_sync.ensures t.0 up t.1 (few t.0 (slice_in list i t.0 t.2)) in
    let more = one_more (cover_by_sync grays) list (c.args.covers.now.items ++ map (cover_by_sync grays) list) c.loop-sync.covers.items i t.0 t.2 (c.loop-sync.invariant list same up few) in
    elim c.match-cover_of_sync.branch [
      | in-Some+in_ok-map_err w ↦
          let cover : w.in-Some.cover ≡ cover_by_sync grays t.0 = let e : Some w.in-Some.cover ≡ Some (cover_by_sync grays t.0) = sym w.in-Some.is ∙ is in cc in
          let pushed : c.match-cover_of_sync.covers.items ≡ c.loop-sync.covers.items ++ w.in-Some.cover ∷ [] = search rules in
          more ∙ ap (λ (xs : List Cover). xs ++ map (cover_by_sync grays) (drop (i + 1) list)) (sym (pushed ∙ ap (λ (k : Cover). c.loop-sync.covers.items ++ k ∷ []) cover))
      | in_default w ↦ absurd (w.in_default.not-Some (cover_by_sync grays t.0) is)
    ]

pub returns : goal.returns
returns c = λ list same up few.
    let many : length list ≤ c.loop-sync.sync-index = subst (λ n. n ≤ c.loop-sync.sync-index) (ap length same ∙ length-map list sync_entry) c.loop-sync-test.false in
    sym (no_more (cover_by_sync c.args.grays.now) list (c.args.covers.now.items ++ map (cover_by_sync c.args.grays.now) list) c.loop-sync.covers.items c.loop-sync.sync-index many (c.loop-sync.invariant list same up few))
