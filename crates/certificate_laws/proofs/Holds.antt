-- What was written as a certificate is read, and certifies each net of the design.
use Rattle.std.proofs.Common.{◌≡◌, ◌∙◌, refl, sym, ap, subst, ℕ, List, [], ◌∷◌, map, Ok, Err}
use Rattle.std.proofs.Math.Path.{fun_ext}
use Rattle.cdc_base.specs.declared.fault.Fault.{Fault}
use Rattle.cdc_base.specs.declared.signal.Signal.{Signal}
use Rattle.cell_graph.specs.declared.net.Net.{Net}
use Rattle.clock_constraints.specs.declared.Constraints.{Constraints}
use Rattle.domains.specs.declared.Domains.{Domains}
use Rattle.cdc_model.specs.declared.scheme.Load.{Load}
use Rattle.obligations.specs.Judged.{CanAudit}
use Rattle.flat_meaning.specs.Trees.{Selects}
use Rattle.flat_model.specs.Laws.{IsNetOf}
use Rattle.flat_model.proofs.Fields.{next_trees}
use Rattle.cert_text.specs.declared.certificate.Certificate.{Certificate}
use Rattle.cert_text.specs.Read.{certificate_in}
use Rattle.cert_text.specs.Texts.{certificate_text}
use Rattle.cert_text.specs.Written.{CanWrite, plain}
use Rattle.cert_text.specs.Written as written
use Rattle.cert_text.proofs.Written.{written_is_read}
use Rattle.cert_check.specs.OnNets.{IsCertifiedOn}
use Rattle.cert_check.specs.Promised.{plain_load}
use Rattle.command_files.specs.declared.status.Status.{Status}
use Rattle.command_files.specs.declared.status.Status.TheVariants.{Done}
use Rattle.described_design.specs.Designs.{IsDesignOf}
use Rattle.described_design.proofs.Once.{both_nets, one_design, one_shape}
use Rattle.certify_command.specs.Certifies.{IsCertifyOf, ListsAllOf}
use Rattle.certify_command.proofs.Certifies.{done_clean}
use Rattle.check_command.specs.Checks.{IsCheckOf}
use Rattle.check_command.specs.Refused.{IsBrokenCertificate}
use Rattle.certificate_laws.specs.Laws.{CertifiedHolds, IsCertificateOf}
use Rattle.certificate_laws.proofs.Found.{all-found, registers-small}
use Rattle.certificate_laws.proofs.Listed.{can-write}
use Rattle.certificate_laws.proofs.Others.{AreOfOneDesign, HasEntries, certified-there}

plain-twice : (ls : List Load) → map plain_load (map written.plain_load ls) ≡ map plain_load ls
plain-twice [] = refl
plain-twice (l ∷ ls) = ap (λ (ks : List Load). plain_load l ∷ ks) (plain-twice ls)

audited : (net : Net) (domains : Domains) → CanAudit net domains → HasEntries net
audited net domains can = record { plain = record { well = can.is_net.graph; shared = can.is_shared }; has_next = can.has_next }

module _ (word text con : List ℕ) (status : Status) (answer : List ℕ) (is : IsCertifyOf word text con status answer) (done : status ≡ Done) where
  none : is.judged.listed.findings ≡ []
  none = done_clean is.judged.listed.findings (sym is.status_is ∙ done)

  abbrev certificate : Certificate
  certificate = (is.answer_is.written none).0

  lists : ListsAllOf is.judged.net is.judged.domains is.judged.fifos is.judged.listed is.judged.is_verdict certificate
  lists = (is.answer_is.written none).1

  text-is : answer ≡ certificate_text is.judged.net.graph.signals certificate
  text-is = (is.answer_is.written none).2

  can : CanWrite is.judged.net.graph.signals certificate
  can = can-write is.judged.net is.judged.domains is.judged.design.design.can.fit (all-found word text con is.judged.constraints is.judged.net is.judged.domains is.judged.design)
      (registers-small word text con is.judged.constraints is.judged.net is.judged.domains is.judged.design) is.judged.fifos is.judged.listed is.judged.is_verdict is.judged.are_fifos none certificate lists

  -- what the text tells lists all as well
  plainly : ListsAllOf is.judged.net is.judged.domains is.judged.fifos is.judged.listed is.judged.is_verdict (plain certificate)
  plainly = record {
    syncs_listed = lists.syncs_listed;
    grays_listed = lists.grays_listed;
    rings_listed = lists.rings_listed;
    loads_listed = plain-twice certificate.loads ∙ lists.loads_listed;
    fifos_listed = lists.fifos_listed;
  }

  module _ (c : Constraints) (net : Net) (domains : Domains) (design : IsDesignOf word text con c net domains) where
    both : (sel : Selects) × IsNetOf is.judged.design.of_modules.flat sel is.judged.constraints is.judged.net is.judged.domains × IsNetOf is.judged.design.of_modules.flat sel is.judged.constraints net domains
    both = both_nets word text con is.judged.constraints c is.judged.net net is.judged.domains domains is.judged.design design

    same-signals : is.judged.net.graph.signals ≡ net.graph.signals
    same-signals = both.1.signals ∙ sym both.2.signals

    reads : certificate_in net.graph.signals answer ≡ Ok (plain certificate)
    reads = ap (λ (ss : List Signal). certificate_in ss answer) (sym same-signals) ∙ ap (certificate_in is.judged.net.graph.signals) text-is
        ∙ written_is_read is.judged.net.graph.signals certificate can

    of-one-design : AreOfOneDesign is.judged.net net is.judged.domains domains
    of-one-design = record {
      design = one_design is.judged.design.of_modules.flat both.0 is.judged.constraints is.judged.net net is.judged.domains domains both.1 both.2;
      trees = fun_ext (λ (sig : ℕ). next_trees is.judged.design.of_modules.flat both.0 is.judged.constraints is.judged.net is.judged.domains both.1 sig
          ∙ sym (next_trees is.judged.design.of_modules.flat both.0 is.judged.constraints net domains both.2 sig));
      shape = one_shape is.judged.design.of_modules.flat both.0 is.judged.constraints is.judged.net net is.judged.domains domains both.1 both.2;
    }

    certified : IsCertifiedOn net domains (plain certificate)
    certified = certified-there is.judged.net net is.judged.domains domains of-one-design (audited is.judged.net is.judged.domains is.judged.design.design.can_audit) (audited net domains design.design.can_audit)
        (plain certificate) (is.certifies done (plain certificate) plainly)

    no-fault : (fault : Fault) (refusal : Status) → IsBrokenCertificate net answer fault refusal → ⊥
    no-fault fault refusal broken = let both : Ok (plain certificate) ≡ Err fault = sym reads ∙ broken.broken in cc

  checked : (found : Status) (said : List ℕ) → IsCheckOf word text con answer found said → found ≡ Done
  checked found said k =
      let both : Ok (plain certificate) ≡ Ok k.certificate = sym (reads k.constraints k.net k.domains k.design) ∙ k.reads in
      let same : plain certificate ≡ k.certificate = cc in
      k.certified (subst (IsCertifiedOn k.net k.domains) same (certified k.constraints k.net k.domains k.design))

  is-certificate : IsCertificateOf word text con answer
  is-certificate = record {
    certifies = λ c net domains design. (plain certificate, reads c net domains design, certified c net domains design);
    done = checked;
    whole = no-fault;
  }

pub certified-holds : CertifiedHolds
certified-holds = is-certificate
