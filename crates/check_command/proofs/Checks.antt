-- The check of a certificate that was read, or wasn't.
use Rattle.std.proofs.Common.{◌≡◌, ◌∙◌, ◌≤◌, ℕ, List, length, map, Result, Ok, Err, refl, sym, arith}
use Rattle.std.specs.Prelude.{IfErr}
use Rattle.cdc_base.specs.declared.fault.Stop.{Stop}
use Rattle.cdc_base.specs.declared.fault.Stop.TheVariants as stop
use Rattle.cell_graph.specs.declared.net.Net.{Net}
use Rattle.clock_constraints.specs.declared.Constraints.{Constraints}
use Rattle.clock_constraints.specs.Refusals.{Gives}
use Rattle.domains.specs.declared.Domains.{Domains}
use Rattle.domains.specs.Assignment.{Refuses}
use Rattle.cdc_model.specs.declared.scheme.Ring.{Ring as RingEntry}
use Rattle.flat_meaning.specs.Design.{Flat}
use Rattle.flat_meaning.specs.Trees.{Selects}
use Rattle.flat_model.specs.Laws.{IsNetOf}
use Rattle.flat_model.proofs.Meanings.{is_net_run_of, net_run_of, register_same, sound_meaning, together_meaning}
use Rattle.flat_model.proofs.NetDesign.{has_meaning}
use Rattle.cert_text.specs.declared.certificate.Certificate.{Certificate}
use Rattle.cert_text.specs.Read.{certificate_in}
use Rattle.cert_text.specs.Texts.{entries_of}
use Rattle.cert_check.specs.declared.Checked.{Checked}
use Rattle.cert_check.specs.declared.Checked.TheVariants.{Holds, BadItem, Bare, Word}
use Rattle.cert_check.specs.Certified.{covers_of}
use Rattle.cert_check.specs.Checked.{CanCheck, DoesHold}
use Rattle.cert_check.specs.OnNets.{is_among, is_of_fifo}
use Rattle.cert_check.specs.Promised.{IsSoundBy, IsTogetherBy, KeepOrder}
use Rattle.command_files.specs.declared.answer.Ending.{Ending}
use Rattle.command_files.specs.declared.status.Status.{Status}
use Rattle.command_files.specs.declared.status.Status.TheVariants.{Done, Record}
use Rattle.command_files.specs.Endings.{HasCause}
use Rattle.command_files.proofs.Ended.{also}
use Rattle.command_files.specs.Files.{max_bytes}
use Rattle.audit_command.proofs.FifoOrder.{in_order_over}
use Rattle.described_design.specs.Designs.{IsDesignOf}
use Rattle.described_design.specs.Refused.{AreTextsRefused}
use Rattle.described_design.proofs.Described.{net_of_design}
use Rattle.check_command.specs.Checks.{CanCheckText, IsCheckOf, IsCheckedText, IsHolding, status_of, text_of}
use Rattle.check_command.specs.Refused.{IsBrokenCertificate, IsCheckRefused, certificate, texts}

-- ---- the certificate

-- a certificate of a file has not too many items
pub can_check : (net : Net) (domains : Domains) (c : Certificate) (cert : List ℕ) → CanCheckText net domains → length (entries_of c) ≤ length cert → length cert ≤ max_bytes
    → CanCheck net domains c
can_check net domains c cert can few within =
    let audit = can.can_audit in
    record {
      is_net = audit.is_net;
      has_next = audit.has_next;
      fits = audit.fits;
      is_shared = audit.is_shared;
      narrow = audit.narrow;
      few = omega arith;
    }

pub unread_cause : (net : Net) (cert : List ℕ) (given : Result Certificate Stop) → Gives given (certificate_in net.graph.signals cert)
    → IfErr given (Refuses (λ f. IsBrokenCertificate net cert f Record))
unread_cause net cert (Ok c) h = tt
unread_cause net cert (Err (stop.Refused f)) h = record { of_record = refl; broken = h }
unread_cause net cert (Err stop.Memory) h = tt

-- ---- what holds

-- only a certificate that holds is done, and each that holds is
does_hold : (checked : Checked) → status_of checked ≡ Done → DoesHold checked
does_hold (Holds n) h = tt
does_hold (BadItem line) h = cc
does_hold (Bare k) h = cc
does_hold (Word w g) h = cc

is_done : (checked : Checked) → DoesHold checked → status_of checked ≡ Done
is_done (Holds n) h = refl
is_done (BadItem line) h = absurd h
is_done (Bare k) h = absurd h
is_done (Word w g) h = absurd h

-- what a certificate promises of the net holds of all that the flat design means
module _ (f : Flat) (sel : Selects) (c : Constraints) (net : Net) (domains : Domains) (is : IsNetOf f sel c net domains) (cert : Certificate) where
  holding : IsSoundBy net domains cert → IsTogetherBy net domains cert → KeepOrder net domains cert → IsHolding f c net domains cert
  holding sound together order =
      let fifos = sound.are_fifos in
      record {
        fifos = sound.fifos;
        are_fifos = fifos;
        sound = sound_meaning f sel c net domains is (covers_of cert) (map (λ (r : RingEntry). r.bits) cert.rings) (is_of_fifo sound.fifos) sound.sound;
        in_order = λ e i.
            let one = fifos.exactly.only e i in
            let kept = order fifos.syncs fifos.listed e one.0 one.1 in
            in_order_over f sel c net domains is fifos.syncs cert.grays e kept.fifo kept.is_fifo kept.entry kept.within kept.oldest;
        together = λ family d m run is_run x register group depth.
            together_meaning f sel c net domains is d m (is_among cert.grays) fifos.syncs run x group depth
            (together fifos.syncs fifos.listed family (net_run_of f sel c net domains is d m run) (is_net_run_of f sel c net domains is d m run is_run) x
            (register_same f sel c net domains is d m x register) group depth);
      }

-- ---- the texts

module _ (word text con cert : List ℕ) where
  -- the check of a certificate over the design that the texts describe
  pub checked_texts : (c : Constraints) (net : Net) (domains : Domains) (checked : Checked) (s : Status) (answer : List ℕ) → IsDesignOf word text con c net domains
      → (CanCheckText net domains → IsCheckedText net domains cert checked) → s ≡ status_of checked → answer ≡ text_of net domains checked
      → IsCheckOf word text con cert s answer
  checked_texts c net domains checked s answer design told is written =
      let flat = design.of_modules.flat in
      let (sel, is_net) = net_of_design design.modules c net domains design.design design.of_modules in
      let on = told (record { can_audit = design.design.can_audit; numbered = design.design.can.read.signals }) in
      record {
        constraints = c;
        net = net;
        domains = domains;
        design = design;
        meaning = has_meaning flat sel c net domains is_net;
        certificate = on.certificate;
        reads = on.reads;
        checked = checked;
        exact = on.exact;
        certified = λ certified. is ∙ is_done checked (on.certified certified);
        holding = λ done.
            let holds = does_hold checked (sym is ∙ done) in
            holding flat sel c net domains is_net on.certificate (on.sound holds) (on.together holds) (on.in_order holds);
        status_is = is;
        answer_is = written;
      }

  pub texts_refused : {T : Type 0} (r : Result T Ending) → IfErr r (HasCause (λ s f. AreTextsRefused word text con f s))
      → IfErr r (HasCause (λ s f. IsCheckRefused word text con cert f s))
  texts_refused r h = also (λ s f. AreTextsRefused word text con f s) (λ s f. IsCheckRefused word text con cert f s) r (λ s f x. texts x) h

  pub certificate_refused : {T : Type 0} (c : Constraints) (net : Net) (domains : Domains) → IsDesignOf word text con c net domains → (r : Result T Ending)
      → (CanCheckText net domains → IfErr r (HasCause (λ s f. IsBrokenCertificate net cert f s)))
      → IfErr r (HasCause (λ s f. IsCheckRefused word text con cert f s))
  certificate_refused c net domains design r h =
      also (λ s f. IsBrokenCertificate net cert f s) (λ s f. IsCheckRefused word text con cert f s) r (λ s f x. certificate c net domains design x)
      (h (record { can_audit = design.design.can_audit; numbered = design.design.can.read.signals }))
