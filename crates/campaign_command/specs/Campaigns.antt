-- What a campaign answers, by what eight random runs of the design that a netlist's text describes under constraints show.
use Rattle.std.specs.Prelude.{◌≡◌, ◌≤◌, ℕ, Bool, Option, Some, None, List, [], ◌∷◌, ◌++◌, length, codes}
use Rattle.std.specs.Fmt.{decimal}
use Rattle.cdc_base.specs.declared.limits.TheConstants.{MAX_CROSSINGS}
use Rattle.cell_graph.specs.declared.net.Net.{Net}
use Rattle.clock_constraints.specs.declared.Constraints.{Constraints}
use Rattle.domains.specs.declared.Domains.{Domains}
use Rattle.cdc_model.specs.Found.{crossings_of}
use Rattle.campaign.specs.declared.found.Found.{Found}
use Rattle.campaign.specs.Campaign.{IsAnswer}
use Rattle.campaign.specs.Lines.{IsLine}
use Rattle.campaign.specs.Shows.{ShowsCapture}
use Rattle.command_files.specs.declared.status.Status.{Status}
use Rattle.command_files.specs.declared.status.Status.TheVariants.{Done, Violations}
use Rattle.audit_command.specs.Audits.{IsAuditOf}
use Rattle.described_design.specs.Designs.{IsDesignOf}

-- a campaign is done where nothing was found
abbrev pub campaign_status : Option Found → Status
campaign_status None = Done
campaign_status (Some found) = Violations

-- the text where runs of so many steps show no capture
abbrev pub none_text : ℕ → List ℕ
none_text steps = (codes "no loose capture in 8 runs of " ++ decimal steps) ++ codes " steps" ++ 10 ∷ []

-- the text of what was found: the record of the run, or that there is none
abbrev pub IsTextOf : Net → Domains → ℕ → Option Found → List ℕ → Type 0
IsTextOf net domains steps None text = text ≡ none_text steps
IsTextOf net domains steps (Some found) text = IsLine net domains found.run text

-- The campaign of so many steps with this seed over the design which a netlist's bytes describe, under the constraints of a file with this word and these
-- bytes. No waiver has a part in it.
pub record IsCampaignOf (steps seed : ℕ) (word text con : List ℕ) (status : Status) (answer : List ℕ) : Type 0 where
  pub constraints : Constraints
  pub net : Net
  pub domains : Domains
  pub design : IsDesignOf word text con constraints net domains
  -- the synchronizers are found among no more crossings than an audit takes
  pub few : length (crossings_of net domains) ≤ MAX_CROSSINGS
  pub found : Option Found
  pub first : IsAnswer net domains steps seed found
  -- what is found fixes a run, in whose last step a register bit, no settling flop, captures a loose bit
  pub shows : (f : Found) → found ≡ Some f → ShowsCapture net domains f
  -- by what is found the status and the text are fixed
  pub status_is : status ≡ campaign_status found
  pub answer_is : IsTextOf net domains steps found answer

-- where the audit of two texts, over all FIFOs of their design, has no finding, each campaign of them is done
abbrev pub CleanAuditsShowNothing : Type 0
CleanAuditsShowNothing = (json : Bool) (word text con verdict : List ℕ) → IsAuditOf json word text con Done verdict
    → (steps seed : ℕ) (status : Status) (answer : List ℕ) → IsCampaignOf steps seed word text con status answer → (status ≡ Done) × (answer ≡ none_text steps)
