-- What the writing of a certificate answers, by the verdict on the design that a netlist's text describes under constraints.
use Rattle.std.specs.Prelude.{◌≡◌, ◌≢◌, ◌==◌, ℕ, List, [], ◌∷◌, ◌++◌, length, codes, if◌then◌else◌}
use Rattle.std.specs.Fmt.{decimal}
use Rattle.cell_graph.specs.declared.net.Net.{Net}
use Rattle.domains.specs.declared.Domains.{Domains}
use Rattle.cdc_model.specs.declared.verdict.Verdict.{Verdict as VerdictEntry}
use Rattle.cdc_model.specs.Listed.{IsVerdictOf}
use Rattle.fifo_scheme.specs.declared.found.Fifo.{Fifo as FifoEntry}
use Rattle.net_verdict.specs.declared.Judged.{Judged}
use Rattle.net_verdict.specs.Fifos.{is_of_fifo}
use Rattle.net_verdict.specs.Judged.{IsJudged}
use Rattle.cert_text.specs.declared.certificate.Certificate.{Certificate}
use Rattle.cert_text.specs.Texts.{certificate_text}
use Rattle.cert_check.specs.OnNets.{IsCertifiedOn}
use Rattle.cert_check.specs.Promised.{HasListed}
use Rattle.command_files.specs.declared.status.Status.{Status}
use Rattle.command_files.specs.declared.status.Status.TheVariants.{Done, Violations}
use Rattle.audit_command.specs.Audits.{AreTextsJudged, IsClean}

-- ---- texts

-- a certificate is written where there is no finding
abbrev pub certified_status : ℕ → Status
certified_status findings = if findings == 0 then Done else Violations

-- the text where so many findings stand against a certificate
abbrev pub none_text : ℕ → List ℕ
none_text findings = (codes "no certificate: " ++ decimal findings) ++ codes " findings" ++ 10 ∷ []

-- ---- certificates of a verdict

-- the certificate lists all synchronizers, Gray registers, rings and loads that the verdict went by, and the counts of all FIFOs in their order
abbrev pub ListsAllOf : (net : Net) (domains : Domains) (fifos : List FifoEntry) (listed : VerdictEntry) → IsVerdictOf net domains (is_of_fifo fifos) listed
    → Certificate → Type 0
ListsAllOf net domains fifos listed w c = HasListed w.syncs listed.grays listed.rings w.loads fifos c

-- the same of a verdict that was made
abbrev pub ListsAll : (net : Net) (domains : Domains) (judged : Judged) → IsJudged net domains judged → Certificate → Type 0
ListsAll net domains judged is c = ListsAllOf net domains is.fifos judged.verdict is.on.exact c

-- The text is that of the certificate that lists all, where nothing was found; else it says how much was.
pub record IsTextOfVerdict (net : Net) (domains : Domains) (fifos : List FifoEntry) (listed : VerdictEntry) (w : IsVerdictOf net domains (is_of_fifo fifos) listed)
    (text : List ℕ) : Type 0 where
  pub written : listed.findings ≡ [] → (c : Certificate) × ListsAllOf net domains fifos listed w c × (text ≡ certificate_text net.graph.signals c)
  pub none : listed.findings ≢ [] → text ≡ none_text (length listed.findings)

abbrev pub IsTextOf : (net : Net) (domains : Domains) (judged : Judged) → IsJudged net domains judged → List ℕ → Type 0
IsTextOf net domains judged is text = IsTextOfVerdict net domains is.fifos judged.verdict is.on.exact text

-- ---- what is answered

-- The certificate of the design which a netlist's bytes describe, under the constraints of a file with this word and these bytes, by the verdict of an audit.
pub record IsCertifyOf (word text con : List ℕ) (status : Status) (answer : List ℕ) : Type 0 where
  pub judged : AreTextsJudged word text con
  -- only of a clean design a certificate is written, and what lists all of its schemes certifies it
  pub clean : status ≡ Done → IsClean judged.design.of_modules.flat judged.constraints judged.net judged.domains (is_of_fifo judged.fifos) judged.listed judged.is_verdict
  pub certifies : status ≡ Done → (c : Certificate) → ListsAllOf judged.net judged.domains judged.fifos judged.listed judged.is_verdict c → IsCertifiedOn judged.net judged.domains c
  -- by the findings the status and the text are fixed
  pub status_is : status ≡ certified_status (length judged.listed.findings)
  pub answer_is : IsTextOfVerdict judged.net judged.domains judged.fifos judged.listed judged.is_verdict answer
