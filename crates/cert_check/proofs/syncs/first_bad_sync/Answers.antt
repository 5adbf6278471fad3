-- One item more is a synchronizer, or it is the first that isn't.
use Rattle.std.proofs.Common.{◌≡◌, ◌∙◌, ap, sym, subst, [], List, ℕ, Option, Some, slice_get}
use Rattle.std.proofs.lemmas.Option.{slice_get-get_or}
use Rattle.cdc_model.specs.Nets.{design_of, net_trees}
use Rattle.cdc_model.specs.Readers.{IsMarked}
use Rattle.cdc_model.specs.Tables.{ShowsNet}
use Rattle.cdc_model.proofs.Justify.{slice_in}
use Rattle.cdc_model.proofs.Synced.{register_state}
use Rattle.cert_check.specs.Certified.{IsSyncItem}
use Rattle.cert_check.specs.Items.{AreKept}
use Rattle.cert_check.proofs.FirstFailing.{one_more, all_hold, other}
use Rattle.cert_check.proofs.SyncItems.{is_item, item_is}
use Rattle.cert_check.proofs.syncs.first_bad_sync.Goals as goal

pub loop-place-preserved : goal.loop-place-preserved
loop-place-preserved c = λ is has fit shown grays.
    let net = c.args.net.now in
    let domains = c.args.domains.now in
    let syncs = c.args.syncs.now in
    let i = c.loop-place.place in
    let lt = c.loop-place-test.true in
    let s = c.index-syncs-place.result in
    let at : slice_get syncs i ≡ Some s = slice_get-get_or syncs i s lt ∙ ap Some (sym c.index-syncs-place.is) in
    let kept : AreKept net c.in_ok-readers.readers s.flops = λ f k reg. c.in_ok-readers.ensures.exact is has shown f (register_state net is f reg)
    (subst (λ (ms : List (Option ℕ)). IsMarked ms f.sig) (sym c.as_slice.ensures.value) (c.in_ok-marks.ensures s f (slice_in syncs i s at) k reg)) in
    one_more (IsSyncItem (design_of net domains) (net_trees net grays)) syncs i (c.loop-place.invariant is has fit shown grays) s at
    (is_item net domains grays is has fit s
    (sym (c.is_sync_item.ensures is has (subst (ShowsNet net []) (sym c.in_ok-readers.ensures.unchanged) shown) kept) ∙ c.if-not-is_sync_item.false))

pub returns-then-not-is_sync_item-clause-exact : goal.returns-then-not-is_sync_item-clause-exact
returns-then-not-is_sync_item-clause-exact c = λ is has fit shown grays.
    let net = c.args.net.now in
    let domains = c.args.domains.now in
    let syncs = c.args.syncs.now in
    let i = c.loop-place.place in
    let lt = c.loop-place-test.true in
    let s = c.index-syncs-place.result in
    let at : slice_get syncs i ≡ Some s = slice_get-get_or syncs i s lt ∙ ap Some (sym c.index-syncs-place.is) in
    let kept : AreKept net c.in_ok-readers.readers s.flops = λ f k reg. c.in_ok-readers.ensures.exact is has shown f (register_state net is f reg)
    (subst (λ (ms : List (Option ℕ)). IsMarked ms f.sig) (sym c.as_slice.ensures.value) (c.in_ok-marks.ensures s f (slice_in syncs i s at) k reg)) in (
      s,
      at,
      λ h. other (sym (sym (c.is_sync_item.ensures is has (subst (ShowsNet net []) (sym c.in_ok-readers.ensures.unchanged) shown) kept) ∙ c.if-not-is_sync_item.true)
          ∙ item_is net domains grays is has fit s h),
      c.loop-place.invariant is has fit shown grays,
    )

pub returns-clause-exact : goal.returns-clause-exact
returns-clause-exact c = λ is has fit shown grays.
    all_hold (IsSyncItem (design_of c.args.net.now c.args.domains.now) (net_trees c.args.net.now grays)) c.args.syncs.now c.loop-place.place (c.loop-place.invariant is has fit shown grays) c.loop-place-test.false
