-- The laws of the worked text.
use Rattle.std.specs.Prelude.{◌≡◌, false, Ok, codes}
use Rattle.sdc_subset.specs.Meanings.{meaning}
use Rattle.net_verdict.specs.Judged.{IsJudged}
use Rattle.command_files.specs.declared.status.Status.TheVariants.{Done}
use Rattle.audit_command.specs.Audits.{IsAuditOf}
use Rattle.worked_audit.specs.Design.{domains, judged, net}
use Rattle.worked_audit.specs.Modules.{constraints}
use Rattle.worked_audit.specs.Texts.{netlist, sdc_text, sdc_word, printed}

-- what the SDC says
abbrev pub ConstraintsAreSaid : Type 0
ConstraintsAreSaid = meaning sdc_text (codes "m") ≡ Ok constraints

-- the verdict on the net has exactly one crossing, which a synchronizer of two flops guards, no FIFO and no finding
abbrev pub NetIsJudged : Type 0
NetIsJudged = IsJudged net domains judged

-- an audit of both texts ends with status 0, by all that its answer says: of the design that they describe, its verdict, and what is sound of its runs
abbrev pub TwoFlopsAreClean : Type 0
TwoFlopsAreClean = IsAuditOf false sdc_word netlist sdc_text Done printed
