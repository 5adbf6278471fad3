-- Why texts have no verdict, from the layers.
use Rattle.std.proofs.Common.{◌<◌, ℕ, List, length, Option, Result, Ok, Err, refl}
use Rattle.std.specs.Prelude.{IfErr}
use Rattle.cdc_base.specs.declared.fault.Stop.{Stop}
use Rattle.cdc_base.specs.declared.fault.Stop.TheVariants as stop
use Rattle.cdc_base.specs.declared.limits.TheConstants.{MAX_CROSSINGS}
use Rattle.cell_graph.specs.declared.net.Net.{Net}
use Rattle.refusals.specs.Limits.{HasCause as HasNumber}
use Rattle.clock_constraints.specs.declared.Constraints.{Constraints as ConstraintsOf}
use Rattle.clock_constraints.specs.Refusals.{Gives}
use Rattle.domains.specs.declared.Domains.{Domains}
use Rattle.domains.specs.Assignment.{Refuses}
use Rattle.cdc_model.specs.Found.{crossings_of}
use Rattle.net_verdict.specs.declared.Judged.{Judged}
use Rattle.net_verdict.specs.Judged.{IsJudged}
use Rattle.obligations.specs.Judged.{CanAudit}
use Rattle.report.specs.Waived.{set_aside}
use Rattle.command_files.specs.declared.answer.Ending.{Ending}
use Rattle.command_files.specs.declared.status.Status.TheVariants.{Netlist, Constraints}
use Rattle.command_files.specs.Endings.{HasCause}
use Rattle.command_files.proofs.Ended.{also}
use Rattle.described_design.specs.Designs.{IsDesignOf}
use Rattle.described_design.specs.Refused.{AreTextsRefused}
use Rattle.audit_command.specs.Refused.{AreTooMany, IsVerdictRefused, crossings, waivers, IsAuditRefused, texts, verdict}

pub crossings_cause : {T : Type 0} (net : Net) (d : Domains) → CanAudit net d → (given : Result T Stop)
    → IfErr given (HasNumber 603 (CanAudit net d → MAX_CROSSINGS < length (crossings_of net d))) → IfErr given (Refuses (λ f. AreTooMany net d f Netlist))
crossings_cause net d can (Ok v) h = tt
crossings_cause net d can (Err (stop.Refused f)) h = record { of_netlist = refl; past_limit = h.0; many = h.1 can }
crossings_cause net d can (Err stop.Memory) h = tt

pub waivers_cause : (c : ConstraintsOf) (net : Net) (d : Domains) (j : Judged) → IsJudged net d j → (given : Result (List (Option ℕ)) Stop)
    → Gives given (set_aside net d j.verdict.findings c.waivers) → IfErr given (Refuses (λ f. IsVerdictRefused c net d f Constraints))
waivers_cause c net d j is (Ok a) h = tt
waivers_cause c net d j is (Err (stop.Refused f)) h = waivers refl j.verdict is.fifos is.are_fifos is.on.exact h
waivers_cause c net d j is (Err stop.Memory) h = tt

module _ (word text con : List ℕ) where
  pub texts_refused : {T : Type 0} (r : Result T Ending) → IfErr r (HasCause (λ s f. AreTextsRefused word text con f s))
      → IfErr r (HasCause (λ s f. IsAuditRefused word text con f s))
  texts_refused r h = also (λ s f. AreTextsRefused word text con f s) (λ s f. IsAuditRefused word text con f s) r (λ s f x. texts x) h

  pub crossings_refused : {T : Type 0} (c : ConstraintsOf) (net : Net) (d : Domains) → IsDesignOf word text con c net d → (r : Result T Ending)
      → IfErr r (HasCause (λ s f. AreTooMany net d f s)) → IfErr r (HasCause (λ s f. IsAuditRefused word text con f s))
  crossings_refused c net d design r h =
      also (λ s f. AreTooMany net d f s) (λ s f. IsAuditRefused word text con f s) r (λ s f x. verdict c net d design (crossings x)) h

  pub verdict_refused : {T : Type 0} (c : ConstraintsOf) (net : Net) (d : Domains) → IsDesignOf word text con c net d → (r : Result T Ending)
      → IfErr r (HasCause (λ s f. IsVerdictRefused c net d f s)) → IfErr r (HasCause (λ s f. IsAuditRefused word text con f s))
  verdict_refused c net d design r h =
      also (λ s f. IsVerdictRefused c net d f s) (λ s f. IsAuditRefused word text con f s) r (λ s f x. verdict c net d design x) h
