-- Why texts have no campaign.
use Rattle.std.specs.Prelude.{ℕ, List}
use Rattle.cdc_base.specs.declared.fault.Fault.{Fault}
use Rattle.cell_graph.specs.declared.net.Net.{Net}
use Rattle.clock_constraints.specs.declared.Constraints.{Constraints}
use Rattle.domains.specs.declared.Domains.{Domains}
use Rattle.audit_command.specs.Refused.{AreTooMany}
use Rattle.command_files.specs.declared.status.Status.{Status}
use Rattle.described_design.specs.Designs.{IsDesignOf}
use Rattle.described_design.specs.Refused.{AreTextsRefused}

-- the texts describe no design; or its net has too many crossings
pub data IsCampaignRefused (word text con : List ℕ) (fault : Fault) (status : Status) : Type 0 where
  texts : AreTextsRefused word text con fault status → IsCampaignRefused word text con fault status
  crossings : (c : Constraints) (net : Net) (domains : Domains) → IsDesignOf word text con c net domains → AreTooMany net domains fault status
      → IsCampaignRefused word text con fault status
