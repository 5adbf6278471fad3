-- What a check of a certificate answers.
use Rattle.std.specs.Prelude.{◌≡◌, ◌≤◌, ◌^◌, ℕ, List, [], ◌∷◌, ◌++◌, length, map, codes, Contains, Ok}
use Rattle.std.specs.Fmt.{decimal}
use Rattle.cell_graph.specs.declared.net.Net.{Net}
use Rattle.clock_constraints.specs.declared.Constraints.{Constraints}
use Rattle.domains.specs.declared.Domains.{Domains}
use Rattle.cdc_model.specs.declared.scheme.Ring.{Ring as RingEntry}
use Rattle.cdc_model.specs.Design.{Design}
use Rattle.cdc_model.specs.Nets.{design_of}
use Rattle.cdc_model.specs.Sound.{Sound}
use Rattle.cdc_model.specs.Together.{OneFamily}
use Rattle.fifo_scheme.specs.declared.found.Fifo.{Fifo as FifoEntry}
use Rattle.flat_meaning.specs.Design.{Flat}
use Rattle.flat_model.specs.Designs.{IsMeaning}
use Rattle.obligations.specs.Judged.{CanAudit}
use Rattle.report.specs.Findings.{crossing_of, entry_of}
use Rattle.report.specs.VerdictText.{ended}
use Rattle.cert_text.specs.declared.certificate.Certificate.{Certificate}
use Rattle.cert_text.specs.Read.{certificate_in}
use Rattle.cert_check.specs.declared.Checked.{Checked}
use Rattle.cert_check.specs.declared.Checked.TheVariants.{Holds, BadItem, Bare, Word}
use Rattle.cert_check.specs.Certified.{covers_of}
use Rattle.cert_check.specs.Checked.{DoesHold}
use Rattle.cert_check.specs.OnNets.{AreFifosOf, IsCertifiedOn, IsCheckedOn, is_among, is_of_fifo, trees_by}
use Rattle.cert_check.specs.Promised.{IsSoundBy, IsTogetherBy, KeepOrder}
use Rattle.command_files.specs.declared.status.Status.{Status}
use Rattle.command_files.specs.declared.status.Status.TheVariants.{Done, Violations}
use Rattle.audit_command.specs.Audits.{IsInOrderBy}
use Rattle.audit_command.specs.Audits as audits
use Rattle.described_design.specs.Designs.{IsDesignOf}

-- ---- texts

-- a certificate that holds is done
abbrev pub status_of : Checked → Status
status_of (Holds crossings) = Done
status_of (BadItem line) = Violations
status_of (Bare crossing) = Violations
status_of (Word word group) = Violations

-- it holds, of so many crossings; or the line of an item, a crossing, or a word and a group, for which it fails
abbrev pub line_of : Net → Domains → Checked → List ℕ
line_of net domains (Holds crossings) = codes "certificate holds crossings=" ++ decimal crossings
line_of net domains (BadItem line) = codes "certificate fails: line " ++ decimal line
line_of net domains (Bare crossing) = codes "certificate fails: crossing " ++ crossing_of net.graph.signals crossing.from crossing.to
line_of net domains (Word word group) = codes "certificate fails: word " ++ entry_of net domains word group

abbrev pub text_of : Net → Domains → Checked → List ℕ
text_of net domains checked = ended (line_of net domains checked ∷ [])

-- ---- certificates of a net

-- What a certificate is checked against: a net that can be audited, whose signals have numbers.
pub record CanCheckText (net : Net) (domains : Domains) : Type 0 where
  pub can_audit : CanAudit net domains
  pub numbered : length net.graph.signals ≤ 2 ^ 32

-- The bytes read as a certificate, and the answer is exact: the certificate holds where it certifies the net, and fails for the first item, crossing or
-- word for which it doesn't. Where it holds, the net keeps what certificates promise.
pub record IsCheckedText (net : Net) (domains : Domains) (cert : List ℕ) (checked : Checked) : Type 0 where
  pub certificate : Certificate
  pub reads : certificate_in net.graph.signals cert ≡ Ok certificate
  pub exact : IsCheckedOn net domains certificate checked
  pub certified : IsCertifiedOn net domains certificate → DoesHold checked
  pub sound : DoesHold checked → IsSoundBy net domains certificate
  pub together : DoesHold checked → IsTogetherBy net domains certificate
  pub in_order : DoesHold checked → KeepOrder net domains certificate

-- ---- what is answered

-- Whatever the flat design means under the constraints is sound by the certificate's covers and rings, with the crossings of the FIFOs for which its pairs
-- of counts stand, and in each run words go through these FIFOs in order. What meets behind its synchronizers belongs to one moment, where each reader
-- reads one family of them, which no certificate says.
pub record IsHolding (f : Flat) (c : Constraints) (net : Net) (domains : Domains) (certificate : Certificate) : Type 0 where
  pub fifos : List FifoEntry
  pub are_fifos : AreFifosOf net domains certificate fifos
  pub sound : (d : Design) → IsMeaning f c d
      → Sound d (covers_of certificate) (map (λ (r : RingEntry). r.bits) certificate.rings) (is_of_fifo fifos)
  pub in_order : (e : FifoEntry) → Contains fifos e → IsInOrderBy f c net.graph are_fifos.syncs certificate.grays e
  pub together : OneFamily (design_of net domains) (trees_by net certificate) are_fifos.syncs
      → audits.IsTogetherBy f c (is_among certificate.grays) are_fifos.syncs

-- The check of the certificate that CERT's bytes read as, over the design which a netlist's bytes describe under the constraints of a file with this word
-- and these bytes.
pub record IsCheckOf (word text con cert : List ℕ) (status : Status) (answer : List ℕ) : Type 0 where
  pub constraints : Constraints
  pub net : Net
  pub domains : Domains
  pub design : IsDesignOf word text con constraints net domains
  pub meaning : (d : Design) × IsMeaning design.of_modules.flat constraints d
  pub certificate : Certificate
  pub reads : certificate_in net.graph.signals cert ≡ Ok certificate
  -- the answer is exact, and a certificate that certifies the net's design holds
  pub checked : Checked
  pub exact : IsCheckedOn net domains certificate checked
  pub certified : IsCertifiedOn net domains certificate → status ≡ Done
  -- where it holds, the flat design that the modules unfold to keeps what it promises
  pub holding : status ≡ Done → IsHolding design.of_modules.flat constraints net domains certificate
  -- the status and the text are those of the answer
  pub status_is : status ≡ status_of checked
  pub answer_is : answer ≡ text_of net domains checked
