-- The audit of the generated design.
use Rattle.std.proofs.Common.{◌≡◌, ℕ, true, List, [], ◌∷◌, length, map, None, Result, Ok, Err, refl, sym, subst}
use Rattle.std.specs.Prelude.{IfOk, IfErr}
use Rattle.cdc_base.specs.declared.bit.Bit.{Bit}
use Rattle.cdc_base.specs.declared.fault.Stop.{Stop}
use Rattle.cell_graph.specs.declared.net.Net.{Net}
use Rattle.domains.specs.declared.Domains.{Domains}
use Rattle.cdc_model.specs.declared.scheme.Ring.{Ring}
use Rattle.cdc_model.specs.declared.verdict.Verdict.{Verdict as VerdictEntry}
use Rattle.cdc_model.specs.Facts.{none_extra}
use Rattle.cdc_model.specs.Listed.{IsVerdictOf}
use Rattle.cdc_model.specs.Nets.{design_of, is_register_bit, net_trees}
use Rattle.cdc_model.specs.Runs.{IsRun, Trace}
use Rattle.cdc_model.specs.Sound.{Sound}
use Rattle.cdc_model.specs.Together.{IsTogether}
use Rattle.flat_model.proofs.Meanings.{verdict_meaning}
use Rattle.flat_model.proofs.NetDesign.{has_meaning}
use Rattle.net_verdict.specs.Verdicts.{IsVerdictOn}
use Rattle.obligations.specs.Judged.{CanAudit}
use Rattle.flat_unfolding.specs.Formed.{IsSourceFormed}
use Rattle.verilog_reading.specs.SourceTree.{ModuleTree}
use Rattle.command_files.specs.declared.answer.Ending.{Ending}
use Rattle.command_files.specs.declared.status.Status.{Status}
use Rattle.command_files.specs.Endings.{HasCause}
use Rattle.command_files.proofs.Ended.{also}
use Rattle.described_design.specs.Described.{IsNetOfModules, ReadsAs}
use Rattle.described_design.specs.Designs.{IsDesign}
use Rattle.described_design.specs.Refused.{IsDesignRefused, IsNetlistRefused}
use Rattle.described_design.proofs.Described.{modules_formed, net_of_design}
use Rattle.audit_command.specs.Audits.{IsStatusOf}
use Rattle.audit_command.specs.Refused.{AreTooMany}
use Rattle.audit_command.proofs.Audits.{told_by}
use Rattle.clock_constraints.specs.declared.Constraints.{Constraints}
use Rattle.clock_constraints.specs.Fit.{AreFit}
use Rattle.generated_design.specs.Clocks.{generated_constraints}
use Rattle.generated_design.proofs.Fit.{generated_fit}
use Rattle.selftest_command.specs.Counts.{counts_line, state_bits}
use Rattle.selftest_command.specs.Selftests.{IsGenerated, IsGeneratedRefused, of_text, of_design, IsSelftestOf, IsSelftestRefused, generation, verdict, generated_text, unwaived_status}

-- what the audit promises of its verdict
pub on_design : (net : Net) (domains : Domains) → CanAudit net domains → (r : Result VerdictEntry Stop)
    → IfOk r (λ e. CanAudit net domains → IsVerdictOf net domains none_extra e)
    → IfOk r (λ e. CanAudit net domains → e.findings ≡ [] → Sound (design_of net domains) e.covers (map (λ (r : Ring). r.bits) e.rings) none_extra)
    → IfOk r (λ e. CanAudit net domains → (is : IsVerdictOf net domains none_extra e) → e.findings ≡ [] → (run : Trace) → IsRun (design_of net domains) run
    → (x : Bit) → is_register_bit net x ≡ true → (group depth : ℕ) → IsTogether (design_of net domains) (net_trees net is.grays) is.syncs run x group depth)
    → IfOk r (IsVerdictOn none_extra net domains)
on_design net domains can (Ok e) exact sound together = record { exact = exact can; sound = sound can; together = together can (exact can) }
on_design net domains can (Err s) exact sound together = tt

module _ (channels : ℕ) where
  pub text_refused : {T : Type 0} (text : List ℕ) → text ≡ generated_text channels → (r : Result T Ending) → IfErr r (HasCause (λ s f. IsNetlistRefused text f s))
      → IfErr r (HasCause (λ s f. IsGeneratedRefused channels f s))
  text_refused text is r h =
      also (λ s f. IsNetlistRefused text f s) (λ s f. IsGeneratedRefused channels f s) r (λ s f x. of_text (subst (λ (t : List ℕ). IsNetlistRefused t f s) is x)) h

  module _ (text : List ℕ) (is : text ≡ generated_text channels) (modules : List ModuleTree) (reads : ReadsAs text modules) (c : Constraints) (c_is : c ≡ generated_constraints) where
    reads_here : ReadsAs (generated_text channels) modules
    reads_here = subst (λ (t : List ℕ). ReadsAs t modules) is reads

    formed : IsSourceFormed modules
    formed = modules_formed text modules reads

    pub design_refused : {T : Type 0} (r : Result T Ending) → (IsSourceFormed modules → IfErr r (HasCause (λ s f. IsDesignRefused modules c f s)))
        → IfErr r (HasCause (λ s f. IsGeneratedRefused channels f s))
    design_refused r h = also (λ s f. IsDesignRefused modules c f s) (λ s f. IsGeneratedRefused channels f s) r
        (λ s f x. of_design modules reads_here (subst (λ (y : Constraints). IsDesignRefused modules y f s) c_is x)) (h formed)

    fits : AreFit c
    fits = subst (λ (x : Constraints). AreFit x) (sym c_is) generated_fit

    pub generated_by : {T : Type 0} (net_of : T → Net) (domains_of : T → Domains) (r : Result T Ending) → (AreFit c → IfOk r (λ made. IsDesign c (net_of made) (domains_of made)))
        → (IsSourceFormed modules → IfOk r (λ made. IsNetOfModules modules c (net_of made))) → IfOk r (λ made. IsGenerated channels (net_of made) (domains_of made))
    generated_by net_of domains_of (Err e) designed unfolded = tt
    generated_by net_of domains_of (Ok made) designed unfolded = record {
      modules = modules;
      reads = reads_here;
      of_modules = subst (λ (x : Constraints). IsNetOfModules modules x (net_of made)) c_is (unfolded formed);
      design = subst (λ (x : Constraints). IsDesign x (net_of made) (domains_of made)) c_is (designed fits);
    }

  pub generated_refused : {T : Type 0} (r : Result T Ending) → IfErr r (HasCause (λ s f. IsGeneratedRefused channels f s)) → IfErr r (HasCause (λ s f. IsSelftestRefused channels f s))
  generated_refused r h = also (λ s f. IsGeneratedRefused channels f s) (λ s f. IsSelftestRefused channels f s) r (λ s f x. generation x) h

  pub crossings_refused : {T : Type 0} (net : Net) (domains : Domains) → IsGenerated channels net domains → (r : Result T Ending)
      → IfErr r (HasCause (λ s f. AreTooMany net domains f s)) → IfErr r (HasCause (λ s f. IsSelftestRefused channels f s))
  crossings_refused net domains made r h =
      also (λ s f. AreTooMany net domains f s) (λ s f. IsSelftestRefused channels f s) r (λ s f x. verdict net domains made x) h

  -- the counts of the verdict
  pub counted : (net : Net) (domains : Domains) (e : VerdictEntry) (s : Status) (answer : List ℕ) → IsGenerated channels net domains
      → (CanAudit net domains → IsVerdictOn none_extra net domains e) → s ≡ unwaived_status (length e.findings) → answer ≡ counts_line channels (state_bits net domains) e
      → IsSelftestOf channels s answer
  counted net domains e s answer made judged is told =
      let flat = made.of_modules.flat in
      let (sel, is_net) = net_of_design made.modules generated_constraints net domains made.design made.of_modules in
      let on = judged made.design.can_audit in
      record {
        net = net;
        domains = domains;
        generated = made;
        meaning = has_meaning flat sel generated_constraints net domains is_net;
        listed = e;
        is_verdict = on.exact;
        exact = verdict_meaning flat sel generated_constraints net domains is_net none_extra e on.exact;
        told = subst (IsStatusOf flat generated_constraints net domains none_extra e on.exact) (sym is)
            (told_by flat sel generated_constraints net domains is_net none_extra e on (None ∷ []) e.findings refl);
        status_is = is;
        answer_is = told;
      }
