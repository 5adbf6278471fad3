-- What a campaign prints of a capture means a record by each net of the design, and no replay of it is refused.
use Rattle.std.proofs.Common.{◌≡◌, ◌∙◌, refl, sym, ap, subst, inl, inr, ℕ, ◌≤◌, Option, Some, None, List, Err}
use Rattle.cdc_base.specs.declared.fault.Fault.{Fault}
use Rattle.cdc_base.specs.declared.fault.Stop.TheVariants as stop
use Rattle.cell_graph.specs.declared.net.Net.{Net}
use Rattle.clock_constraints.specs.declared.Constraints.{Constraints}
use Rattle.domains.specs.declared.Domains.{Domains}
use Rattle.cdc_model.specs.declared.record.Record.{Record as RunRecord}
use Rattle.cdc_model.specs.Design.{Design}
use Rattle.cdc_model.specs.Nets.{design_of}
use Rattle.cdc_model.specs.Replay.{replayed, Ran}
use Rattle.cdc_model.specs.Runs.{Trace}
use Rattle.flat_meaning.specs.Trees.{Selects}
use Rattle.flat_model.specs.Laws.{IsNetOf}
use Rattle.run_file.specs.Files.{IsMeaning}
use Rattle.run_report.specs.Printed.{IsRunText}
use Rattle.campaign.specs.declared.found.Found.{Found}
use Rattle.campaign.specs.Campaign.{IsAnswer}
use Rattle.campaign.specs.Run.{CanRun}
use Rattle.campaign_records.specs.Laws.{IsReadBack}
use Rattle.campaign_records.proofs.Found.{found-records-are-read}
use Rattle.campaign_records.proofs.Replayed.{not-refused}
use Rattle.found_names.proofs.Designs.{designs-are-found}
use Rattle.command_files.specs.declared.answer.Ending.TheVariants.{Refused}
use Rattle.command_files.specs.declared.status.Status.{Status}
use Rattle.command_files.specs.declared.status.Status.TheVariants.{Record, Violations}
use Rattle.described_design.specs.Designs.{IsDesignOf}
use Rattle.described_design.proofs.Once.{both_nets, one_design}
use Rattle.campaign_command.specs.Campaigns.{IsCampaignOf, IsTextOf, campaign_status}
use Rattle.campaign_command.proofs.Campaigns.{can_run}
use Rattle.replay_command.specs.Replays.{IsReplayOf, IsReplayUnder}
use Rattle.campaign_laws.specs.Laws.{CampaignsReplay, FixesRun, IsRecordOf}
use Rattle.campaign_laws.proofs.Records.{same-fault, same-meaning}

module _ (steps seed : ℕ) (word text con : List ℕ) (status : Status) (answer : List ℕ) (few : steps ≤ 100000)
    (is : IsCampaignOf steps seed word text con status answer) (violations : status ≡ Violations) where
  some : (o : Option Found) → is.found ≡ o → campaign_status o ≡ Violations → (f : Found) × (is.found ≡ Some f)
  some None e h = cc
  some (Some f) e h = (f, e)

  there : (f : Found) × (is.found ≡ Some f)
  there = some is.found refl (sym is.status_is ∙ violations)

  abbrev run : RunRecord
  run = there.0.run

  can : CanRun is.net is.domains
  can = can_run is.net is.domains is.design.design.can

  read-back : IsReadBack is.net is.domains answer run
  read-back =
      found-records-are-read is.net is.domains steps seed there.0 answer can (designs-are-found word text con is.constraints is.net is.domains is.design) few
      (subst (IsAnswer is.net is.domains steps seed) there.1 is.first)
      (subst (λ (o : Option Found). IsTextOf is.net is.domains steps o answer) there.1 is.answer_is)

  module _ (c : Constraints) (net : Net) (domains : Domains) (design : IsDesignOf word text con c net domains) where
    both : (sel : Selects) × IsNetOf is.design.of_modules.flat sel is.constraints is.net is.domains × IsNetOf is.design.of_modules.flat sel is.constraints net domains
    both = both_nets word text con is.constraints c is.net net is.domains domains is.design design

    one : design_of is.net is.domains ≡ design_of net domains
    one = one_design is.design.of_modules.flat both.0 is.constraints is.net net is.domains domains both.1 both.2

    means : IsMeaning net domains answer run
    means = same-meaning is.design.of_modules.flat both.0 is.constraints is.net net is.domains domains both.1 both.2 answer run read-back.means

    fixed : (t : Trace) × (replayed (design_of net domains) run ≡ Ran t)
    fixed = (read-back.fixed.0, ap (λ (d : Design). replayed d run) (sym one) ∙ read-back.fixed.1)

    fixes : FixesRun net domains answer
    fixes = record { record_is = run; means = means; fixed = fixed }

    no-fault : (fault : Fault) → IsReplayOf net domains answer (Err (Refused Record fault)) → ⊥
    no-fault fault (s, inl broken) =
        read-back.whole fault (same-fault is.design.of_modules.flat both.0 is.constraints net is.net domains is.domains both.2 both.1 answer fault broken)
    no-fault fault (s, inr (r, m, t)) =
        let alone = read-back.alone r (same-meaning is.design.of_modules.flat both.0 is.constraints net is.net domains is.domains both.2 both.1 answer r m) in
        not-refused net domains run fixed.0 fault fixed.1 (subst (λ (q : RunRecord). IsRunText net domains q (Err (stop.Refused fault))) alone t)

  whole : (fault : Fault) → IsReplayUnder word text con answer (Err (Refused Record fault)) → ⊥
  whole fault u = no-fault u.constraints u.net u.domains u.design fault u.replayed

  is-record : IsRecordOf word text con answer
  is-record = record { fixes = fixes; whole = whole }

pub campaigns-replay : CampaignsReplay
campaigns-replay = is-record
