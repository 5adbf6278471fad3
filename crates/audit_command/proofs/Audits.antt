-- The status that an audit answers, from its verdict.
use Rattle.std.proofs.Common.{◌≡◌, ◌≢◌, ◌∙◌, ℕ, ◌==◌, Bool, true, false, List, [], ◌∷◌, length, map, Option, is_some, Ok, refl, sym, ap, subst, arith}
use Rattle.std.specs.Prelude.{if◌then◌else◌}
use Rattle.std.specs.List.{list_all}
use Rattle.cdc_base.specs.declared.bit.Bit.{Bit}
use Rattle.cell_graph.specs.declared.net.Net.{Net}
use Rattle.clock_constraints.specs.declared.Constraints.{Constraints}
use Rattle.domains.specs.declared.Domains.{Domains}
use Rattle.cdc_model.specs.declared.scheme.Cover.{Cover}
use Rattle.cdc_model.specs.declared.scheme.Ring.{Ring}
use Rattle.cdc_model.specs.declared.verdict.Finding.{Finding as FindingEntry}
use Rattle.cdc_model.specs.declared.verdict.Verdict.{Verdict as VerdictEntry}
use Rattle.cdc_model.specs.Design.{Design}
use Rattle.cdc_model.specs.Listed.{AreEntries}
use Rattle.cdc_model.specs.Nets.{design_of, net_trees}
use Rattle.cdc_model.specs.Schemes.{Sync, Trees, ring_bits}
use Rattle.cdc_model.specs.Sound.{Sound}
use Rattle.cdc_model.specs.Verdict.{Finding}
use Rattle.cdc_model.proofs.Listing.{clean_listed, listed_bits}
use Rattle.flat_meaning.specs.Design.{Flat}
use Rattle.flat_meaning.specs.Trees.{Selects}
use Rattle.flat_model.specs.Laws.{IsNetOf}
use Rattle.flat_model.proofs.Meanings.{is_net_run_of, net_run_of, register_same, sound_meaning, together_meaning, verdict_meaning}
use Rattle.flat_model.proofs.NetDesign.{has_meaning}
use Rattle.net_verdict.specs.declared.Judged.{Judged}
use Rattle.net_verdict.specs.Fifos.{is_of_fifo}
use Rattle.net_verdict.specs.Judged.{IsJudged}
use Rattle.net_verdict.specs.Verdicts.{IsVerdictOn}
use Rattle.obligations.specs.Judged.{CanAudit}
use Rattle.report.specs.Waived.{set_aside}
use Rattle.command_files.specs.declared.status.Status.{Status}
use Rattle.command_files.specs.declared.status.Status.TheVariants.{Done, Violations, Waived}
use Rattle.audit_command.specs.Audits.{AreTextsJudged, IsAuditOf, IsSoundBy, IsStatusOf, IsTogetherBy, audited_status, text_of}
use Rattle.audit_command.proofs.FifoOrder.{in_order_by}
use Rattle.described_design.specs.Designs.{IsDesignOf}
use Rattle.described_design.proofs.Described.{net_of_design}

-- where findings are listed there are some
some_listed : (net : Net) (d : Design) (t : Trees) (syncs : List Sync) (fs : List Finding) (e : FindingEntry) (es : List FindingEntry)
    → AreEntries net d t syncs fs (e ∷ es) → fs ≢ []
some_listed net d t syncs [] e es h none = h
some_listed net d t syncs (f ∷ fs) e es h none = cc

module _ (f : Flat) (sel : Selects) (c : Constraints) (net : Net) (domains : Domains) (is : IsNetOf f sel c net domains)
    (extra : Bit → Bit → Bool) (e : VerdictEntry) (on : IsVerdictOn extra net domains e) where
  -- the covers and rings that are listed are those of the verdict
  sound_by : e.findings ≡ [] → IsSoundBy f c extra on.exact.verdict
  sound_by none d m =
      let w = on.exact in
      subst (λ (covers : List Cover). Sound d covers (map ring_bits w.verdict.rings) extra) w.is_listed.covers
      (subst (λ (rings : List (List Bit)). Sound d e.covers rings extra) (listed_bits net (design_of net domains) (net_trees net w.grays) w.syncs w.verdict e w.is_listed)
      (sound_meaning f sel c net domains is e.covers (map (λ (r : Ring). r.bits) e.rings) extra (on.sound none) d m))

  -- a run of what the flat design means is one of the net's design
  together_by : e.findings ≡ [] → IsTogetherBy f c on.exact.grays on.exact.syncs
  together_by none d m run is_run x register group depth =
      together_meaning f sel c net domains is d m on.exact.grays on.exact.syncs run x group depth
      (on.together none (net_run_of f sel c net domains is d m run) (is_net_run_of f sel c net domains is d m run is_run) x
      (register_same f sel c net domains is d m x register) group depth)

  found_some : (waived : Bool) → on.exact.verdict.findings ≢ [] → IsStatusOf f c net domains extra e on.exact (if waived then Waived else Violations)
  found_some true some = some
  found_some false some = some

  pub told_by : (aside : List (Option ℕ)) (es : List FindingEntry) → e.findings ≡ es → IsStatusOf f c net domains extra e on.exact (audited_status (length es) aside)
  told_by aside [] none =
      let w = on.exact in
      record {
        none = clean_listed net (design_of net domains) (net_trees net w.grays) w.syncs w.verdict e w.is_listed none;
        sound = sound_by none;
        together = together_by none;
      }
  told_by aside (x ∷ es) found =
      let w = on.exact in
      let some : (length (x ∷ es) == 0) ≡ false = grind arith in
      subst (λ (none : Bool). IsStatusOf f c net domains extra e w (if none then Done else (if list_all is_some aside then Waived else Violations))) (sym some)
      (found_some (list_all is_some aside) (some_listed net (design_of net domains) (net_trees net w.grays) w.syncs w.verdict.findings x es
      (subst (AreEntries net (design_of net domains) (net_trees net w.grays) w.syncs w.verdict.findings) found w.is_listed.findings)))

-- only where nothing was found the audit is done
pub done_clean : (es : List FindingEntry) (aside : List (Option ℕ)) → audited_status (length es) aside ≡ Done → es ≡ []
done_clean [] aside h = refl
done_clean (e ∷ es) aside h = absurd (found (list_all is_some aside)
    (subst (λ (none : Bool). (if none then Done else (if list_all is_some aside then Waived else Violations)) ≡ Done) some h))
  where
    some : (length (e ∷ es) == 0) ≡ false
    some = grind arith

    found : (waived : Bool) → (if waived then Waived else Violations) ≡ Done → ⊥
    found true k = cc
    found false k = cc

-- the verdict on the design that the texts describe
module _ {word text con : List ℕ} (c : Constraints) (net : Net) (domains : Domains) (j : Judged) (design : IsDesignOf word text con c net domains)
    (all : IsJudged net domains j) where
  abbrev pub judged_texts : AreTextsJudged word text con
  judged_texts =
      let flat = design.of_modules.flat in
      let (sel, is_net) = net_of_design design.modules c net domains design.design design.of_modules in
      record {
        constraints = c;
        net = net;
        domains = domains;
        design = design;
        meaning = has_meaning flat sel c net domains is_net;
        listed = j.verdict;
        fifos = all.fifos;
        are_fifos = all.are_fifos;
        is_verdict = all.on.exact;
        exact = verdict_meaning flat sel c net domains is_net (is_of_fifo all.fifos) j.verdict all.on.exact;
      }

-- an audit of the design that the texts describe
pub audited_texts : (json : Bool) (word text con : List ℕ) (c : Constraints) (net : Net) (domains : Domains) (j : Judged)
    (aside : List (Option ℕ)) (s : Status) (answer : List ℕ)
    → IsDesignOf word text con c net domains → (CanAudit net domains → IsJudged net domains j)
    → set_aside net domains j.verdict.findings c.waivers ≡ Ok aside → s ≡ audited_status (length j.verdict.findings) aside
    → answer ≡ text_of json net domains j.verdict j.lines c.waivers aside → IsAuditOf json word text con s answer
audited_texts json word text con c net domains j aside s answer design judged waived is told =
    let flat = design.of_modules.flat in
    let (sel, is_net) = net_of_design design.modules c net domains design.design design.of_modules in
    let all = judged design.design.can_audit in
    let extra = is_of_fifo all.fifos in
    let e = j.verdict in
    let on = all.on in
    record {
      judged = judged_texts c net domains j design all;
      told = subst (IsStatusOf flat c net domains extra e on.exact) (sym is) (told_by flat sel c net domains is_net extra e on aside e.findings refl);
      in_order = λ done fifo i. in_order_by flat sel c net domains is_net extra e on.exact fifo (all.in_order (done_clean e.findings aside (sym is ∙ done)) fifo i);
      aside = aside;
      waived = waived;
      status_is = is;
      answer_is = told ∙ ap (λ (lines : List (List ℕ)). text_of json net domains e lines c.waivers aside) all.lines;
    }
