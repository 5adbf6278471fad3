-- A campaign over the design of both texts.
use Rattle.std.proofs.Common.{◌≡◌, ◌∙◌, ◌≤◌, ◌^◌, ℕ, List, length, map, Option, Result, sym}
use Rattle.std.specs.Prelude.{IfErr}
use Rattle.cdc_base.specs.declared.limits.TheConstants.{MAX_CROSSINGS}
use Rattle.cell_graph.specs.declared.net.Net.{Net}
use Rattle.clock_constraints.specs.declared.Constraints.{Constraints}
use Rattle.domains.specs.declared.Domains.{Domains}
use Rattle.cdc_model.specs.declared.scheme.Sync.{Sync as SyncEntry}
use Rattle.cdc_model.specs.Found.{crossings_of}
use Rattle.cdc_model.specs.Listed.{sync_entry}
use Rattle.cdc_model.specs.Syncs.{syncs_of}
use Rattle.obligations.specs.Judged.{CanAudit}
use Rattle.campaign.specs.declared.found.Found.{Found}
use Rattle.campaign.specs.Campaign.{IsAnswer}
use Rattle.campaign.specs.Run.{CanRun}
use Rattle.campaign.specs.Shows.{FoundsShowCaptures}
use Rattle.command_files.specs.declared.answer.Ending.{Ending}
use Rattle.command_files.specs.declared.status.Status.{Status}
use Rattle.command_files.specs.Endings.{HasCause}
use Rattle.command_files.proofs.Ended.{also}
use Rattle.audit_command.specs.Refused.{AreTooMany}
use Rattle.described_design.specs.Designs.{CanReplay, IsDesignOf}
use Rattle.described_design.specs.Refused.{AreTextsRefused}
use Rattle.described_design.proofs.Opened.{can_open}
use Rattle.campaign_command.specs.Campaigns.{IsCampaignOf, IsTextOf, campaign_status}
use Rattle.campaign_command.specs.Refused.{IsCampaignRefused, crossings, texts}

-- what can be replayed can run
pub can_run : (net : Net) (domains : Domains) → CanReplay net domains → CanRun net domains
can_run net domains can = record { is = can.is_net; has = can.next_cells; opens = can_open net domains can; clocks = can.read.clocks }

module _ (word text con : List ℕ) where
  pub campaigned : FoundsShowCaptures → (steps seed : ℕ) (c : Constraints) (net : Net) (domains : Domains) (syncs : List SyncEntry) (found : Option Found) (s : Status) (answer : List ℕ)
      → IsDesignOf word text con c net domains
      → (CanAudit net domains → length (crossings_of net domains) ≤ MAX_CROSSINGS)
      → (CanAudit net domains → syncs ≡ map sync_entry (syncs_of net domains))
      → (CanRun net domains → syncs ≡ map sync_entry (syncs_of net domains) → IsAnswer net domains steps seed found)
      → s ≡ campaign_status found → (length domains.clocks ≤ 2 ^ 32 → IsTextOf net domains steps found answer)
      → IsCampaignOf steps seed word text con s answer
  campaigned law steps seed c net domains syncs found s answer design few all searched status told =
      let can = can_run net domains design.design.can in
      let first = searched can (all design.design.can_audit) in
      record {
        constraints = c;
        net = net;
        domains = domains;
        design = design;
        few = few design.design.can_audit;
        found = found;
        first = first;
        shows = λ f is. law net domains first.named steps seed f can first.are_named (sym first.first ∙ is);
        status_is = status;
        answer_is = told can.clocks;
      }

  pub texts_refused : {T : Type 0} (r : Result T Ending) → IfErr r (HasCause (λ s f. AreTextsRefused word text con f s))
      → IfErr r (HasCause (λ s f. IsCampaignRefused word text con f s))
  texts_refused r h = also (λ s f. AreTextsRefused word text con f s) (λ s f. IsCampaignRefused word text con f s) r (λ s f x. texts x) h

  pub crossings_refused : {T : Type 0} (c : Constraints) (net : Net) (domains : Domains) → IsDesignOf word text con c net domains → (r : Result T Ending)
      → IfErr r (HasCause (λ s f. AreTooMany net domains f s)) → IfErr r (HasCause (λ s f. IsCampaignRefused word text con f s))
  crossings_refused c net domains design r h =
      also (λ s f. AreTooMany net domains f s) (λ s f. IsCampaignRefused word text con f s) r (λ s f x. crossings c net domains design x) h
