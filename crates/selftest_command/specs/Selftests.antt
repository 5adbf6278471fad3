-- What a selftest answers.
use Rattle.std.specs.Prelude.{◌≡◌, ◌==◌, ℕ, List, length, if◌then◌else◌}
use Rattle.cdc_base.specs.declared.fault.Fault.{Fault}
use Rattle.cell_graph.specs.declared.net.Net.{Net}
use Rattle.domains.specs.declared.Domains.{Domains}
use Rattle.cdc_model.specs.declared.verdict.Verdict.{Verdict as VerdictEntry}
use Rattle.cdc_model.specs.Design.{Design}
use Rattle.cdc_model.specs.Facts.{none_extra}
use Rattle.cdc_model.specs.Listed.{IsVerdictOf}
use Rattle.flat_model.specs.Designs.{HasVerdict, IsMeaning}
use Rattle.verilog_parse.specs.Pieces.{source_pieces}
use Rattle.verilog_parse.specs.Printed.{bytes_of}
use Rattle.verilog_reading.specs.SourceTree.{ModuleTree}
use Rattle.command_files.specs.declared.status.Status.{Status}
use Rattle.command_files.specs.declared.status.Status.TheVariants.{Done, Violations}
use Rattle.described_design.specs.Described.{IsNetOfModules, ReadsAs}
use Rattle.described_design.specs.Designs.{IsDesign}
use Rattle.described_design.specs.Refused.{IsDesignRefused, IsNetlistRefused}
use Rattle.audit_command.specs.Audits.{IsStatusOf}
use Rattle.audit_command.specs.Refused.{AreTooMany}
use Rattle.generated_design.specs.Channels.{generated_source}
use Rattle.generated_design.specs.Clocks.{generated_constraints}
use Rattle.selftest_command.specs.Counts.{counts_line, state_bits}

-- the printed text of the generated source with so many channels
unfoldable pub generated_text : ℕ → List ℕ
generated_text channels = bytes_of (source_pieces (generated_source channels))

-- the status of an audit without waivers
abbrev pub unwaived_status : ℕ → Status
unwaived_status findings = if findings == 0 then Done else Violations

-- the net and the domains are those of the generated design
pub record IsGenerated (channels : ℕ) (net : Net) (domains : Domains) : Type 0 where
  pub modules : List ModuleTree
  pub reads : ReadsAs (generated_text channels) modules
  pub of_modules : IsNetOfModules modules generated_constraints net
  pub design : IsDesign generated_constraints net domains

-- the text is refused, or the design
pub data IsGeneratedRefused (channels : ℕ) (fault : Fault) (status : Status) : Type 0 where
  of_text : IsNetlistRefused (generated_text channels) fault status → IsGeneratedRefused channels fault status
  of_design : (modules : List ModuleTree) → ReadsAs (generated_text channels) modules → IsDesignRefused modules generated_constraints fault status
      → IsGeneratedRefused channels fault status

-- the counts of the verdict on the generated design
pub record IsSelftestOf (channels : ℕ) (status : Status) (answer : List ℕ) : Type 0 where
  pub net : Net
  pub domains : Domains
  pub generated : IsGenerated channels net domains
  -- the flat design that the modules unfold to means something, and the verdict is that of all that it means
  pub meaning : (d : Design) × IsMeaning generated.of_modules.flat generated_constraints d
  pub listed : VerdictEntry
  pub is_verdict : IsVerdictOf net domains none_extra listed
  pub exact : (d : Design) (m : IsMeaning generated.of_modules.flat generated_constraints d) → HasVerdict generated.of_modules.flat m.sel d none_extra is_verdict.verdict
  pub told : IsStatusOf generated.of_modules.flat generated_constraints net domains none_extra listed is_verdict status
  pub status_is : status ≡ unwaived_status (length listed.findings)
  pub answer_is : answer ≡ counts_line channels (state_bits net domains) listed

-- the generated design is refused, or it has too many crossings
pub data IsSelftestRefused (channels : ℕ) (fault : Fault) (status : Status) : Type 0 where
  generation : IsGeneratedRefused channels fault status → IsSelftestRefused channels fault status
  verdict : (net : Net) (domains : Domains) → IsGenerated channels net domains → AreTooMany net domains fault status → IsSelftestRefused channels fault status
