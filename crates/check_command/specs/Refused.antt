-- Why texts have no check.
use Rattle.std.specs.Prelude.{◌≡◌, ℕ, List, Err}
use Rattle.cdc_base.specs.declared.fault.Fault.{Fault}
use Rattle.cell_graph.specs.declared.net.Net.{Net}
use Rattle.clock_constraints.specs.declared.Constraints.{Constraints}
use Rattle.domains.specs.declared.Domains.{Domains}
use Rattle.cert_text.specs.Read.{certificate_in}
use Rattle.command_files.specs.declared.status.Status.{Status}
use Rattle.command_files.specs.declared.status.Status.TheVariants.{Record}
use Rattle.described_design.specs.Designs.{IsDesignOf}
use Rattle.described_design.specs.Refused.{AreTextsRefused}

-- the bytes are no certificate of the net, by the first line that breaks a rule
pub record IsBrokenCertificate (net : Net) (cert : List ℕ) (fault : Fault) (status : Status) : Type 0 where
  pub of_record : status ≡ Record
  pub broken : certificate_in net.graph.signals cert ≡ Err fault

-- the texts describe no design; or the certificate's bytes are none of its net
pub data IsCheckRefused (word text con cert : List ℕ) (fault : Fault) (status : Status) : Type 0 where
  texts : AreTextsRefused word text con fault status → IsCheckRefused word text con cert fault status
  certificate : (c : Constraints) (net : Net) (domains : Domains) → IsDesignOf word text con c net domains → IsBrokenCertificate net cert fault status
      → IsCheckRefused word text con cert fault status
