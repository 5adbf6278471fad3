-- One line more, the first that is none of a ring, or none.
use Rattle.std.proofs.Common.{◌≡◌, ◌∙◌, sym, ap, subst, true, false, Some, []}
use Rattle.std.proofs.lemmas.Option.{slice_get-get_or}
use Rattle.cdc_model.specs.Nets.{design_of, net_trees}
use Rattle.cdc_model.specs.Tables.{ShowsNet}
use Rattle.cert_check.specs.Certified.{IsRingItem}
use Rattle.cert_check.proofs.FirstFailing.{one_more, all_hold}
use Rattle.cert_check.proofs.rings.first_bad_ring.Goals as goal

pub loop-place-preserved : goal.loop-place-preserved
loop-place-preserved c = record {
  same = c.in_ok-is_ring_item.ensures.unchanged ∙ c.loop-place.invariant.same;
  good = λ is has fit shown grays ss same are.
      let rings = c.args.rings.now in
      let i = c.loop-place.place in
      let ring = c.index-rings-place.result in
      one_more (IsRingItem (design_of c.args.net.now c.args.domains.now) (net_trees c.args.net.now grays) c.args.syncs.now) rings i (c.loop-place.invariant.good is has fit shown grays ss same are)
      ring (slice_get-get_or rings i ring c.loop-place-test.true ∙ ap Some (sym c.index-rings-place.is))
      ((c.in_ok-is_ring_item.ensures.exact is has fit (subst (ShowsNet c.args.net.now []) (sym c.loop-place.invariant.same) shown) grays ss same are c.in_ok-firsts.ensures).0 c.if-not-branch.false);
}

pub returns-then-not-branch-clause-exact : goal.returns-then-not-branch-clause-exact
returns-then-not-branch-clause-exact c = λ is has fit shown grays ss same are.
    let rings = c.args.rings.now in
    let i = c.loop-place.place in
    let ring = c.index-rings-place.result in
    let exact = c.in_ok-is_ring_item.ensures.exact is has fit (subst (ShowsNet c.args.net.now []) (sym c.loop-place.invariant.same) shown) grays ss same are c.in_ok-firsts.ensures in (
      ring,
      slice_get-get_or rings i ring c.loop-place-test.true ∙ ap Some (sym c.index-rings-place.is),
      λ h. never (sym c.if-not-branch.true ∙ exact.1 h),
      c.loop-place.invariant.good is has fit shown grays ss same are,
    )
  where
    never : false ≡ true → ⊥
    never h = cc

pub returns-clause-exact : goal.returns-clause-exact
returns-clause-exact c = λ is has fit shown grays ss same are.
    all_hold (IsRingItem (design_of c.args.net.now c.args.domains.now) (net_trees c.args.net.now grays) c.args.syncs.now) c.args.rings.now c.loop-place.place
    (c.loop-place.invariant.good is has fit shown grays ss same are) c.loop-place-test.false
