-- What is walked over and what meets is what is answered.
use Rattle.std.proofs.Common.{◌∙◌, ◌↔◌, sym, subst, List, Contains}
use Rattle.std.specs.List.Sorted.{IsSorted}
use Rattle.cdc_model.specs.declared.scheme.GrayReg.{GrayReg}
use Rattle.cdc_model.specs.declared.scheme.Load.{Load}
use Rattle.cdc_model.specs.Found.{crossings_of}
use Rattle.cdc_model.specs.Nets.{design_of, net_trees}
use Rattle.cdc_model.specs.Verdict.{IsServed}
use Rattle.cert_check.specs.contracts.served.PassageOrd.TheImpl as order
use Rattle.cert_check.specs.declared.served.Passage.{Passage}
use Rattle.cert_check.specs.Checked.{AreServed, IsFirstBare, IsFoundMeeting}
use Rattle.cert_check.specs.OnNets.{is_among}
use Rattle.cert_check.specs.Served.{IsWalked, passages}
use Rattle.cert_check.proofs.Bare.{bare_is, served_are}
use Rattle.cert_check.proofs.check_crossings.Goals as goal

pub returns-in-Bare : goal.returns-in-Bare
returns-in-Bare c = λ can shown ss is_extra listed are others.
    let net = c.args.net.now in
    let domains = c.args.domains.now in
    let grays = is_among c.args.certificate.now.grays in
    let served = c.as_slice-2.result.now in
    let extra = c.args.extra.now in
    let k = c.in-Bare.crossing in
    let all = λ (p : Passage). subst (λ (xs : List Passage). Contains xs p ↔ Contains (passages c.as_slice-syncs.result.now c.as_slice.result.now extra) p) (sym c.as_slice-2.ensures.value) (c.in_ok-served.ensures.listed p) in
    let sorted = subst (IsSorted order.ghosts.cmp) (sym c.as_slice-2.ensures.value) c.in_ok-served.ensures.sorted in
    subst (λ (ls : List Load). IsFirstBare (design_of net domains) (net_trees net grays) (IsServed ss ls is_extra) k) c.as_slice.ensures
    (bare_is net domains grays can.is_net served c.as_slice-syncs.result.now ss (c.as_slice-syncs.ensures ∙ listed) c.as_slice.result.now extra is_extra all others k
    (subst (IsWalked served (crossings_of net domains)) c.in-Bare.is (c.in_ok-walked.ensures can.is_net can.has_next can.fits shown sorted)))

pub returns-in-Some : goal.returns-in-Some
returns-in-Some c = λ can shown ss is_extra listed are others.
    let net = c.args.net.now in
    let domains = c.args.domains.now in
    let grays = is_among c.args.certificate.now.grays in
    let served = c.as_slice-2.result.now in
    let extra = c.args.extra.now in
    let all = λ (p : Passage). subst (λ (xs : List Passage). Contains xs p ↔ Contains (passages c.as_slice-syncs.result.now c.as_slice.result.now extra) p) (sym c.as_slice-2.ensures.value) (c.in_ok-served.ensures.listed p) in
    let sorted = subst (IsSorted order.ghosts.cmp) (sym c.as_slice-2.ensures.value) c.in_ok-served.ensures.sorted in
    let walked = served_are net domains grays can.is_net served c.as_slice-syncs.result.now ss (c.as_slice-syncs.ensures ∙ listed) c.as_slice.result.now extra is_extra all others c.in-Served.crossings
    (subst (IsWalked served (crossings_of net domains)) c.in-Served.is (c.in_ok-walked.ensures can.is_net can.has_next can.fits shown sorted)) in (
      subst (λ (ls : List Load). AreServed (design_of net domains) (net_trees net grays) (IsServed ss ls is_extra)) c.as_slice.ensures walked.0,
      subst (IsFoundMeeting (design_of net domains) ss c.args.certificate.now.grays) c.in-Some.is
          (subst (λ (gs : List GrayReg). IsFoundMeeting (design_of net domains) ss gs c.in_ok-meeting-in-Served.meeting) c.as_slice-in-Served.ensures
          (c.in_ok-meeting-in-Served.ensures net grays ss can.is_net can.has_next can.fits (c.as_slice-syncs.ensures ∙ listed) are)),
    )

pub returns : goal.returns
returns c = λ can shown ss is_extra listed are others.
    let net = c.args.net.now in
    let domains = c.args.domains.now in
    let grays = is_among c.args.certificate.now.grays in
    let served = c.as_slice-2.result.now in
    let extra = c.args.extra.now in
    let all = λ (p : Passage). subst (λ (xs : List Passage). Contains xs p ↔ Contains (passages c.as_slice-syncs.result.now c.as_slice.result.now extra) p) (sym c.as_slice-2.ensures.value) (c.in_ok-served.ensures.listed p) in
    let sorted = subst (IsSorted order.ghosts.cmp) (sym c.as_slice-2.ensures.value) c.in_ok-served.ensures.sorted in
    let walked = served_are net domains grays can.is_net served c.as_slice-syncs.result.now ss (c.as_slice-syncs.ensures ∙ listed) c.as_slice.result.now extra is_extra all others c.in-Served.crossings
    (subst (IsWalked served (crossings_of net domains)) c.in-Served.is (c.in_ok-walked.ensures can.is_net can.has_next can.fits shown sorted)) in (
      subst (λ (ls : List Load). AreServed (design_of net domains) (net_trees net grays) (IsServed ss ls is_extra)) c.as_slice.ensures walked.0,
      subst (IsFoundMeeting (design_of net domains) ss c.args.certificate.now.grays) c.in-None.is
          (subst (λ (gs : List GrayReg). IsFoundMeeting (design_of net domains) ss gs c.in_ok-meeting-in-Served.meeting) c.as_slice-in-Served.ensures
          (c.in_ok-meeting-in-Served.ensures net grays ss can.is_net can.has_next can.fits (c.as_slice-syncs.ensures ∙ listed) are)),
      walked.1,
    )
