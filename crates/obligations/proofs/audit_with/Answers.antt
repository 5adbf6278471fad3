-- From what each search finds.
use Rattle.std.proofs.Common.{◌≡◌, ◌∙◌, sym, subst, true, [], List}
use Rattle.cdc_model.specs.declared.scheme.Crossing.{Crossing}
use Rattle.cdc_model.specs.Nets.{design_of, net_trees}
use Rattle.cdc_model.specs.Ordered.{IsAll}
use Rattle.cdc_model.specs.Syncs.{syncs_of}
use Rattle.cdc_model.specs.Tables.{ShowsNet}
use Rattle.cdc_model.specs.Verdict.{IsCover, IsFirstLoad, cover_key, gray_key, load_key}
use Rattle.mux_recirc.specs.Given.{AreGuards}
use Rattle.obligations.proofs.Judging.{judged}
use Rattle.obligations.proofs.ListedGrays.{all_listed, is_listed, listed}
use Rattle.obligations.proofs.audit_with.Goals as goal

pub returns-clause-exact : goal.returns-clause-exact
returns-clause-exact g c = λ can are shown.
    let net = c.args.net.now in
    let domains = c.args.domains.now in
    let d = design_of net domains in
    let syncs = syncs_of net domains in
    let is_extra = g.E.Extra.is_extra c.args.extra.now in
    let codes = c.args.schemes.now.grays in
    let crossings = c.as_slice-crossings.ensures ∙ are.crossings in
    let all_syncs = c.as_slice-syncs.ensures ∙ are.syncs in
    let grays = is_listed codes in
    let all_grays = all_listed codes are.grays.ordered in
    let rings = c.in_ok-rings.ensures.exact can.is_net can.has_next can.fits shown all_syncs grays in
    let shown-2 = subst (ShowsNet net []) (sym c.rings_with.ensures.unchanged) shown in
    let guards = c.in_ok-guards.ensures.shown grays rings.0 (record {
      is_net = can.is_net;
      has_next = can.has_next;
      fits = can.fits;
      all_crossings = crossings;
      all_rings = rings.1;
      listed = c.as_slice.ensures ∙ rings.2;
    }) shown-2 in
    let shown-3 = subst (ShowsNet net []) (sym c.find.ensures.unchanged) shown-2 in
    let loads = c.in_ok-loads.ensures.exact net domains grays rings.0 guards in
    let grays_there = subst (IsAll (λ g. grays g ≡ true) gray_key) (sym c.as_slice-grays.ensures) all_grays in
    let loads_there = subst (IsAll (IsFirstLoad d (net_trees net grays) rings.0) load_key) (sym c.as_slice-2.ensures) loads in
    let covers = c.in_ok-covers.ensures.exact grays rings.0 (record {
      is_net = can.is_net;
      has_next = can.has_next;
      fits = can.fits;
      all_crossings = crossings;
      all_syncs = all_syncs;
      all_grays = grays_there;
      all_rings = rings.1;
      all_loads = loads_there;
      guards = guards;
    }) in
    let findings = c.in_ok-findings.ensures.exact grays rings.0 is_extra (record {
      are_found = record {
        is_net = can.is_net;
        has_next = can.has_next;
        fits = can.fits;
        all_crossings = crossings;
        all_syncs = all_syncs;
        all_grays = grays_there;
        all_rings = rings.1;
        all_loads = loads_there;
        guards = guards;
      };
      all_covers = subst (IsAll (IsCover c.as_slice-grays.result.now syncs c.as_slice-2.result.now) cover_key) (sym c.as_slice-3.ensures) covers;
      listed = c.covers-3.ensures.listed;
      ordered = c.covers-3.ensures.ordered;
    }) shown-3 in
    judged net domains can grays rings.0 c.as_slice-grays.result.now c.as_slice-2.result.now grays_there rings.1 loads_there is_extra
    (λ q. (λ h. are.grays.only q (listed codes q h), λ h. all_grays.only q (are.grays.all q h))) _ (c.in_ok-crossings.ensures ∙ crossings) c.in_ok-grays.ensures rings.2 covers
    findings.0 findings.1

pub returns-clause-sound : goal.returns-clause-sound
returns-clause-sound g c = λ can verdict fits clean. c.clean_net_is_sound.ensures.sound c.args.net.now c.args.domains.now _ can.fits verdict fits clean

pub returns-clause-together : goal.returns-clause-together
returns-clause-together g c = λ can verdict fits clean. c.clean_net_is_sound.ensures.together c.args.net.now c.args.domains.now _ can.fits verdict fits clean
