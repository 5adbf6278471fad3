-- The certificate of a verdict without findings, and what is answered where there are some.
use Rattle.std.proofs.Common.{◌≡◌, ◌∙◌, ℕ, ◌==◌, Bool, false, List, [], ◌∷◌, length, map, Result, refl, sym, ap, subst, arith}
use Rattle.std.specs.Prelude.{IfErr, if◌then◌else◌}
use Rattle.cell_graph.specs.declared.net.Net.{Net}
use Rattle.clock_constraints.specs.declared.Constraints.{Constraints}
use Rattle.domains.specs.declared.Domains.{Domains}
use Rattle.cdc_model.specs.declared.scheme.Crossing.{Crossing}
use Rattle.cdc_model.specs.declared.scheme.GrayReg.{GrayReg}
use Rattle.cdc_model.specs.declared.scheme.Load.{Load}
use Rattle.cdc_model.specs.declared.scheme.Ring.{Ring}
use Rattle.cdc_model.specs.declared.verdict.Finding.{Finding}
use Rattle.cdc_model.specs.Found.{crossings_of}
use Rattle.cdc_model.specs.Listed.{IsVerdictOf, sync_entry}
use Rattle.cdc_model.specs.Nets.{design_of, net_trees}
use Rattle.cdc_model.specs.Ordered.{IsAll}
use Rattle.cdc_model.specs.Schemes.{IsCrossing, IsRing, IsSync, Ring as RingOf, Sync}
use Rattle.cdc_model.specs.Syncs.{syncs_of}
use Rattle.cdc_model.specs.Verdict.{IsFirstLoad, crossing_key, load_key, ring_key, sync_key}
use Rattle.cdc_model.proofs.Found.{crossings_are_all, net_ascends}
use Rattle.cdc_model.proofs.Ordered.{one_list}
use Rattle.cdc_model.proofs.Synced.{syncs_are_all}
use Rattle.fifo_scheme.specs.Entries.{IsListedFifo, fifo_key}
use Rattle.fifo_scheme.proofs.Items.{empty_of}
use Rattle.mux_recirc.specs.Given.{AreGiven}
use Rattle.net_verdict.specs.declared.Judged.{Judged}
use Rattle.net_verdict.specs.Fifos.{is_of_fifo}
use Rattle.net_verdict.specs.Judged.{IsJudged}
use Rattle.obligations.specs.Judged.{CanAudit}
use Rattle.cert_text.specs.declared.certificate.Certificate.{Certificate}
use Rattle.cert_text.specs.Texts.{certificate_text}
use Rattle.cert_check.specs.Promised.{CleanIsCertified, plain_load}
use Rattle.command_files.specs.declared.answer.Ending.{Ending}
use Rattle.command_files.specs.declared.status.Status.{Status}
use Rattle.command_files.specs.declared.status.Status.TheVariants.{Done, Violations}
use Rattle.command_files.specs.Endings.{HasCause}
use Rattle.command_files.proofs.Ended.{also}
use Rattle.audit_command.specs.Refused.{AreTooMany}
use Rattle.audit_command.proofs.Audits.{judged_texts, told_by}
use Rattle.described_design.specs.Designs.{IsDesignOf}
use Rattle.described_design.specs.Refused.{AreTextsRefused}
use Rattle.described_design.proofs.Described.{net_of_design}
use Rattle.certify_command.specs.Certifies.{IsCertifyOf, IsTextOf, ListsAll, certified_status}
use Rattle.certify_command.specs.Refused.{IsCertifyRefused, crossings, texts}

-- ---- findings

-- only where nothing was found a certificate is written
pub done_clean : (es : List Finding) → certified_status (length es) ≡ Done → es ≡ []
done_clean [] h = refl
done_clean (e ∷ es) h = absurd (found (subst (λ (none : Bool). (if none then Done else Violations) ≡ Done) some h))
  where
    some : (length (e ∷ es) == 0) ≡ false
    some = grind arith

    found : Violations ≡ Done → ⊥
    found k = cc

-- ---- the lists of a verdict

module _ (net : Net) (domains : Domains) (can : CanAudit net domains) (j : Judged) (is : IsJudged net domains j) where
  abbrev pub verdict_of : IsVerdictOf net domains (is_of_fifo is.fifos) j.verdict
  verdict_of = is.on.exact

  pub same_syncs : syncs_of net domains ≡ verdict_of.syncs
  same_syncs =
      one_list sync_key (IsSync (design_of net domains) (net_trees net verdict_of.grays)) (syncs_of net domains) verdict_of.syncs
      (syncs_are_all net domains verdict_of.grays can.is_net can.fits) verdict_of.is_verdict.all_syncs

  -- the crossings and rings of a verdict are those that loads are searched among
  given : (ks : List Crossing) (rs : List Ring) → ks ≡ j.verdict.crossings → rs ≡ j.verdict.rings
      → AreGiven net domains verdict_of.grays ks verdict_of.verdict.rings rs
  given ks rs same_crossings same_rings = record {
    is_net = can.is_net;
    has_next = can.has_next;
    fits = can.fits;
    all_crossings = same_crossings ∙ verdict_of.is_listed.crossings
        ∙ one_list crossing_key (λ c. IsCrossing (design_of net domains) (net_trees net verdict_of.grays) c.from c.to) verdict_of.verdict.crossings (crossings_of net domains)
        verdict_of.is_verdict.all_crossings (crossings_are_all net domains verdict_of.grays (net_ascends net can.is_net));
    all_rings = subst (λ (ss : List Sync). IsAll (IsRing (design_of net domains) (net_trees net verdict_of.grays) ss) ring_key verdict_of.verdict.rings) (sym same_syncs)
        verdict_of.is_verdict.all_rings;
    listed = same_rings ∙ verdict_of.is_listed.rings;
  }

  -- and so the loads are the verdict's
  pub lists_all : (ks : List Crossing) (rs : List Ring) → ks ≡ j.verdict.crossings → rs ≡ j.verdict.rings → (loads : List Load)
      → ((grays : GrayReg → Bool) (rings : List RingOf) → AreGiven net domains grays ks rings rs
      → IsAll (IsFirstLoad (design_of net domains) (net_trees net grays) rings) load_key loads)
      → ListsAll net domains j is (record { syncs = j.syncs; grays = j.verdict.grays; rings = j.verdict.rings; loads = loads; fifos = j.counts })
  lists_all ks rs same_crossings same_rings loads all = record {
    syncs_listed = is.syncs ∙ ap (map sync_entry) same_syncs;
    grays_listed = refl;
    rings_listed = refl;
    loads_listed = ap (map plain_load)
        (one_list load_key (IsFirstLoad (design_of net domains) (net_trees net verdict_of.grays) verdict_of.verdict.rings) loads verdict_of.loads
        (all verdict_of.grays verdict_of.verdict.rings (given ks rs same_crossings same_rings)) verdict_of.is_verdict.all_loads);
    fifos_listed = is.counts;
  }

  pub text_written : (c : Certificate) (text : List ℕ) → length j.verdict.findings ≡ 0 → ListsAll net domains j is c → text ≡ certificate_text net.graph.signals c
      → IsTextOf net domains j is text
  text_written c text none lists told = record {
    written = λ _. (c, lists, told);
    none = λ some. absurd (some (empty_of j.verdict.findings none));
  }

-- ---- the texts

module _ (word text con : List ℕ) where
  pub certified_texts : CleanIsCertified → (c : Constraints) (net : Net) (domains : Domains) (j : Judged) (s : Status) (answer : List ℕ)
      → IsDesignOf word text con c net domains → (CanAudit net domains → IsJudged net domains j) → s ≡ certified_status (length j.verdict.findings)
      → (CanAudit net domains → (is : IsJudged net domains j) → IsTextOf net domains j is answer) → IsCertifyOf word text con s answer
  certified_texts law c net domains j s answer design judged status told =
      let flat = design.of_modules.flat in
      let (sel, is_net) = net_of_design design.modules c net domains design.design design.of_modules in
      let can = design.design.can_audit in
      let is = judged can in
      record {
        judged = judged_texts c net domains j design is;
        clean = λ done. told_by flat sel c net domains is_net (is_of_fifo is.fifos) j.verdict is.on [] [] (done_clean j.verdict.findings (sym status ∙ done));
        certifies = λ done certificate lists.
            law net domains is.fifos j.verdict is.on.exact
            (subst (λ (ss : List Sync). IsAll (IsListedFifo net domains ss j.verdict.grays) fifo_key is.fifos) (same_syncs net domains can j is) is.are_fifos)
            (done_clean j.verdict.findings (sym status ∙ done)) certificate lists;
        status_is = status;
        answer_is = told can is;
      }

  pub texts_refused : {T : Type 0} (r : Result T Ending) → IfErr r (HasCause (λ s f. AreTextsRefused word text con f s))
      → IfErr r (HasCause (λ s f. IsCertifyRefused word text con f s))
  texts_refused r h = also (λ s f. AreTextsRefused word text con f s) (λ s f. IsCertifyRefused word text con f s) r (λ s f x. texts x) h

  pub crossings_refused : {T : Type 0} (c : Constraints) (net : Net) (domains : Domains) → IsDesignOf word text con c net domains → (r : Result T Ending)
      → IfErr r (HasCause (λ s f. AreTooMany net domains f s)) → IfErr r (HasCause (λ s f. IsCertifyRefused word text con f s))
  crossings_refused c net domains design r h =
      also (λ s f. AreTooMany net domains f s) (λ s f. IsCertifyRefused word text con f s) r (λ s f x. crossings c net domains design x) h
