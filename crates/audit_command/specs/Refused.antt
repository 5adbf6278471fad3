-- Why texts have no verdict.
use Rattle.std.specs.Prelude.{◌≡◌, ◌<◌, ℕ, List, length, Err}
use Rattle.cdc_base.specs.declared.fault.Fault.{Fault}
use Rattle.cdc_base.specs.declared.limits.TheConstants.{MAX_CROSSINGS}
use Rattle.refusals.specs.Limits.{IsPastLimit}
use Rattle.cell_graph.specs.declared.net.Net.{Net}
use Rattle.clock_constraints.specs.declared.Constraints.{Constraints as ConstraintsOf}
use Rattle.domains.specs.declared.Domains.{Domains}
use Rattle.cdc_model.specs.declared.verdict.Verdict.{Verdict}
use Rattle.cdc_model.specs.Found.{crossings_of}
use Rattle.cdc_model.specs.Listed.{IsVerdictOf}
use Rattle.fifo_scheme.specs.declared.found.Fifo.{Fifo}
use Rattle.net_verdict.specs.Fifos.{AreFifosOf, is_of_fifo}
use Rattle.report.specs.Waived.{set_aside}
use Rattle.command_files.specs.declared.status.Status.{Status}
use Rattle.command_files.specs.declared.status.Status.TheVariants.{Netlist, Constraints}
use Rattle.described_design.specs.Designs.{IsDesignOf}
use Rattle.described_design.specs.Refused.{AreTextsRefused}

-- the net has too many crossings
pub record AreTooMany (net : Net) (domains : Domains) (fault : Fault) (status : Status) : Type 0 where
  pub of_netlist : status ≡ Netlist
  pub past_limit : IsPastLimit 603 fault
  pub many : MAX_CROSSINGS < length (crossings_of net domains)

-- a net and its domains in an audit: too many crossings; or the first waiver that meets no finding of the verdict over all FIFOs
pub data IsVerdictRefused (c : ConstraintsOf) (net : Net) (domains : Domains) (fault : Fault) (status : Status) : Type 0 where
  crossings : AreTooMany net domains fault status → IsVerdictRefused c net domains fault status
  waivers : status ≡ Constraints → (verdict : Verdict) (fifos : List Fifo) → AreFifosOf net domains verdict.grays fifos
      → IsVerdictOf net domains (is_of_fifo fifos) verdict → set_aside net domains verdict.findings c.waivers ≡ Err fault
      → IsVerdictRefused c net domains fault status

-- an audit of both files' bytes
pub data IsAuditRefused (word text con : List ℕ) (fault : Fault) (status : Status) : Type 0 where
  texts : AreTextsRefused word text con fault status → IsAuditRefused word text con fault status
  verdict : (c : ConstraintsOf) (net : Net) (domains : Domains) → IsDesignOf word text con c net domains → IsVerdictRefused c net domains fault status
      → IsAuditRefused word text con fault status
