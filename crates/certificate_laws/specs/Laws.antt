-- A certificate that was written holds of the design that it was written for.
use Rattle.std.specs.Prelude.{◌≡◌, ℕ, List, Ok}
use Rattle.cdc_base.specs.declared.fault.Fault.{Fault}
use Rattle.cell_graph.specs.declared.net.Net.{Net}
use Rattle.clock_constraints.specs.declared.Constraints.{Constraints}
use Rattle.domains.specs.declared.Domains.{Domains}
use Rattle.cert_text.specs.declared.certificate.Certificate.{Certificate}
use Rattle.cert_text.specs.Read.{certificate_in}
use Rattle.cert_check.specs.OnNets.{IsCertifiedOn}
use Rattle.command_files.specs.declared.status.Status.{Status}
use Rattle.command_files.specs.declared.status.Status.TheVariants.{Done}
use Rattle.described_design.specs.Designs.{IsDesignOf}
use Rattle.certify_command.specs.Certifies.{IsCertifyOf}
use Rattle.check_command.specs.Checks.{IsCheckOf}
use Rattle.check_command.specs.Refused.{IsBrokenCertificate}

-- The bytes are a certificate of the design which a netlist's bytes describe under the constraints of a file with this word and these bytes: whichever net
-- is made of it, they read as a certificate that certifies the net. So each check of them is done, and none is refused for the certificate.
pub record IsCertificateOf (word text con cert : List ℕ) : Type 0 where
  pub certifies : (c : Constraints) (net : Net) (domains : Domains) → IsDesignOf word text con c net domains
      → (certificate : Certificate) × (certificate_in net.graph.signals cert ≡ Ok certificate) × IsCertifiedOn net domains certificate
  pub done : (status : Status) (answer : List ℕ) → IsCheckOf word text con cert status answer → status ≡ Done
  pub whole : (c : Constraints) (net : Net) (domains : Domains) → IsDesignOf word text con c net domains → (fault : Fault) (status : Status)
      → ¬ IsBrokenCertificate net cert fault status

-- what `certify` writes with status 0 is a certificate of the described design
abbrev pub CertifiedHolds : Type 0
CertifiedHolds = (word text con : List ℕ) (status : Status) (answer : List ℕ) → IsCertifyOf word text con status answer → status ≡ Done → IsCertificateOf word text con answer
