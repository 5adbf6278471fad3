-- One line more, the first that is none of a load, or none.
use Rattle.std.proofs.Common.{◌≡◌, ◌∙◌, sym, subst, true, false, [], get_or}
use Rattle.std.proofs.lemmas.Option.{slice_get-get_or}
use Rattle.cdc_model.specs.declared.scheme.Load.{Load}
use Rattle.cdc_model.specs.Nets.{design_of, net_trees}
use Rattle.cdc_model.specs.Tables.{ShowsNet}
use Rattle.cert_check.specs.Certified.{IsLoadItem}
use Rattle.cert_check.proofs.FirstFailing.{one_more, all_hold}
use Rattle.cert_check.proofs.loads.first_bad_load.Goals as goal

abbrev none : Load
none = record { from = record { sig = 0; at = 0 }; to = record { sig = 0; at = 0 }; ring = 0; gate = 0; recirculating = false }

pub loop-place-preserved : goal.loop-place-preserved
loop-place-preserved c = record {
  same = c.in_ok-is_load_item.ensures.unchanged ∙ c.loop-place.invariant.same;
  good = λ is has fit shown grays ss rs same are.
      let loads = c.args.loads.now in
      let i = c.loop-place.place in
      one_more (IsLoadItem (design_of c.args.net.now c.args.domains.now) (net_trees c.args.net.now grays) c.args.rings.now) loads i
      (c.loop-place.invariant.good is has fit shown grays ss rs same are) (get_or loads i none) (slice_get-get_or loads i none c.loop-place-test.true)
      ((c.in_ok-is_load_item.ensures.exact is has fit (subst (ShowsNet c.args.net.now []) (sym c.loop-place.invariant.same) shown) grays ss rs same are).0 c.if-not-branch.false);
}

pub returns-then-not-branch-clause-exact : goal.returns-then-not-branch-clause-exact
returns-then-not-branch-clause-exact c = λ is has fit shown grays ss rs same are.
    let loads = c.args.loads.now in
    let i = c.loop-place.place in
    let exact = c.in_ok-is_load_item.ensures.exact is has fit (subst (ShowsNet c.args.net.now []) (sym c.loop-place.invariant.same) shown) grays ss rs same are in (
      get_or loads i none,
      slice_get-get_or loads i none c.loop-place-test.true,
      λ h. never (sym c.if-not-branch.true ∙ exact.1 h),
      c.loop-place.invariant.good is has fit shown grays ss rs same are,
    )
  where
    never : false ≡ true → ⊥
    never h = cc

pub returns-clause-exact : goal.returns-clause-exact
returns-clause-exact c = λ is has fit shown grays ss rs same are.
    all_hold (IsLoadItem (design_of c.args.net.now c.args.domains.now) (net_trees c.args.net.now grays) c.args.rings.now) c.args.loads.now c.loop-place.place
    (c.loop-place.invariant.good is has fit shown grays ss rs same are) c.loop-place-test.false
