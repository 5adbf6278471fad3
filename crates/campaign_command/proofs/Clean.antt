-- Where an audit ends without findings, campaigns of its texts are done.
use Rattle.std.proofs.Common.{◌≡◌, ◌∙◌, ℕ, Bool, List, [], Option, Some, None, refl, sym, ap, subst}
use Rattle.cdc_model.specs.Design.{Design}
use Rattle.cdc_model.specs.Nets.{design_of, net_trees}
use Rattle.cdc_model.specs.Ordered.{IsAll}
use Rattle.cdc_model.specs.Schemes.{IsSync, Trees}
use Rattle.cdc_model.specs.Syncs.{syncs_of}
use Rattle.cdc_model.specs.Verdict.{sync_key}
use Rattle.cdc_model.proofs.Ordered.{one_list}
use Rattle.cdc_model.proofs.Synced.{syncs_are_all}
use Rattle.campaign.specs.declared.found.Found.{Found}
use Rattle.command_files.specs.declared.status.Status.{Status}
use Rattle.command_files.specs.declared.status.Status.TheVariants.{Done}
use Rattle.audit_command.specs.Audits.{IsAuditOf}
use Rattle.audit_command.proofs.Audits.{done_clean}
use Rattle.campaign_command.specs.Campaigns.{CleanAuditsShowNothing, IsCampaignOf, IsTextOf, campaign_status, none_text}
use Rattle.campaign_command.proofs.Calm.{none_shown}
use Rattle.described_design.proofs.Once.{both_nets, one_design, one_shape}

module _ (json : Bool) (word text con verdict : List ℕ) (a : IsAuditOf json word text con Done verdict) (steps seed : ℕ) (status : Status) (answer : List ℕ)
    (b : IsCampaignOf steps seed word text con status answer) where
  clean : a.judged.listed.findings ≡ []
  clean = done_clean a.judged.listed.findings a.aside (sym a.status_is)

  same : design_of b.net b.domains ≡ design_of a.judged.net a.judged.domains
  same =
      let (sel, n, o) = both_nets word text con a.judged.constraints b.constraints a.judged.net b.net a.judged.domains b.domains a.judged.design b.design in
      sym (one_design a.judged.design.of_modules.flat sel a.judged.constraints a.judged.net b.net a.judged.domains b.domains n o)

  shape : net_trees b.net a.judged.is_verdict.grays ≡ net_trees a.judged.net a.judged.is_verdict.grays
  shape =
      let (sel, n, o) = both_nets word text con a.judged.constraints b.constraints a.judged.net b.net a.judged.domains b.domains a.judged.design b.design in
      sym (one_shape a.judged.design.of_modules.flat sel a.judged.constraints a.judged.net b.net a.judged.domains b.domains n o a.judged.is_verdict.grays)

  -- the campaign goes by the audit's synchronizers
  syncs : syncs_of b.net b.domains ≡ a.judged.is_verdict.syncs
  syncs = one_list sync_key (IsSync (design_of a.judged.net a.judged.domains) (net_trees a.judged.net a.judged.is_verdict.grays)) (syncs_of b.net b.domains) a.judged.is_verdict.syncs
      (subst (λ (t : Trees). IsAll (IsSync (design_of a.judged.net a.judged.domains) t) sync_key (syncs_of b.net b.domains)) shape
      (subst (λ (d : Design). IsAll (IsSync d (net_trees b.net a.judged.is_verdict.grays)) sync_key (syncs_of b.net b.domains)) same
      (syncs_are_all b.net b.domains a.judged.is_verdict.grays b.design.design.can.is_net b.design.design.can.fit))) a.judged.is_verdict.is_verdict.all_syncs

  nothing : (o : Option Found) → b.found ≡ o → o ≡ None
  nothing None is = refl
  nothing (Some f) is = absurd (none_shown a.judged.net a.judged.domains a.judged.design.design.can.is_net a.judged.design.design.can.fit a.judged.listed a.judged.fifos a.judged.are_fifos
      a.judged.is_verdict clean b.net b.domains same syncs f (b.shows f is))

  pub done : (status ≡ Done) × (answer ≡ none_text steps)
  done =
      let none = nothing b.found refl in
      (b.status_is ∙ ap campaign_status none, subst (λ (o : Option Found). IsTextOf b.net b.domains steps o answer) none b.answer_is)

pub clean_shows_nothing : CleanAuditsShowNothing
clean_shows_nothing json word text con verdict a steps seed status answer b = done json word text con verdict a steps seed status answer b
