-- What certificates that certify a net promise, and what certifies it.
use Rattle.std.specs.Prelude.{◌≡◌, ℕ, Bool, true, false, List, [], map}
use Rattle.cdc_base.specs.declared.bit.Bit.{Bit}
use Rattle.cell_graph.specs.declared.net.Net.{Net}
use Rattle.domains.specs.declared.Domains.{Domains}
use Rattle.domains.specs.Fit.{Fit}
use Rattle.cdc_model.specs.declared.scheme.GrayReg.{GrayReg}
use Rattle.cdc_model.specs.declared.scheme.Load.{Load}
use Rattle.cdc_model.specs.declared.scheme.Ring.{Ring as RingEntry}
use Rattle.cdc_model.specs.declared.verdict.Verdict.{Verdict as VerdictEntry}
use Rattle.cdc_model.specs.Listed.{IsVerdictOf, sync_entry}
use Rattle.cdc_model.specs.Nets.{design_of, is_register_bit, next_tree}
use Rattle.cdc_model.specs.Ordered.{IsAll}
use Rattle.cdc_model.specs.Runs.{State, Trace, Then, IsRun}
use Rattle.cdc_model.specs.Schemes.{Sync}
use Rattle.cdc_model.specs.Sound.{Sound}
use Rattle.cdc_model.specs.Together.{IsTogether, OneFamily}
use Rattle.fifo_laws.specs.Fifos.{Fifo, IsFifo}
use Rattle.fifo_laws.specs.Order.{IsWithinDepth, ReadsOldest}
use Rattle.fifo_scheme.specs.declared.found.Fifo.{Fifo as Entry}
use Rattle.fifo_scheme.specs.declared.found.FifoPair.{FifoPair}
use Rattle.fifo_scheme.specs.Entries.{IsEntry, IsListedFifo, fifo_key}
use Rattle.fifo_scheme.specs.Pairs.{IsStoodFor}
use Rattle.cert_text.specs.declared.certificate.Certificate.{Certificate}
use Rattle.cert_check.specs.Certified.{covers_of}
use Rattle.cert_check.specs.OnNets.{AreFifosOf, IsCertifiedOn, is_of_fifo, trees_by}

-- The design of a net is sound by a certificate's covers and rings, with the crossings of its FIFOs.
pub record IsSoundBy (net : Net) (domains : Domains) (c : Certificate) : Type 0 where
  pub fifos : List Entry
  pub are_fifos : AreFifosOf net domains c fifos
  pub sound : Sound (design_of net domains) (covers_of c) (map (λ (r : RingEntry). r.bits) c.rings) (is_of_fifo fifos)

-- what meets in a run behind these synchronizers belongs to one moment, where each reader reads one family of them
abbrev pub IsTogetherOver : Net → Domains → Certificate → List Sync → Type 0
IsTogetherOver net domains c syncs = OneFamily (design_of net domains) (trees_by net c) syncs
    → (run : Trace) → IsRun (design_of net domains) run → (x : Bit) → is_register_bit net x ≡ true → (group depth : ℕ)
    → IsTogether (design_of net domains) (trees_by net c) syncs run x group depth

-- the same of the certificate's synchronizers
abbrev pub IsTogetherBy : Net → Domains → Certificate → Type 0
IsTogetherBy net domains c = (syncs : List Sync) → c.syncs ≡ map sync_entry syncs → IsTogetherOver net domains c syncs

-- In every run no more is popped from the FIFO than was pushed, no more is pushed than has room, and what its readers take is the oldest word.
pub record KeepsOrder (net : Net) (domains : Domains) (syncs : List Sync) (grays : List GrayReg) (e : Entry) : Type 0 where
  pub fifo : Fifo
  pub is_fifo : IsFifo (design_of net domains) (next_tree net) syncs grays fifo
  pub entry : IsEntry net.graph fifo e
  pub within : (run : Trace) → IsRun (design_of net domains) run → IsWithinDepth fifo run
  pub oldest : (past : Trace) (edges : ℕ → Bool) (new : State) → IsRun (design_of net domains) (Then past edges new)
      → ReadsOldest (design_of net domains) fifo past edges new

-- each FIFO over the certificate's synchronizers and Gray registers for which one of its pairs stands keeps order
abbrev pub KeepOrder : Net → Domains → Certificate → Type 0
KeepOrder net domains c = (syncs : List Sync) → c.syncs ≡ map sync_entry syncs → (e : Entry) → IsListedFifo net domains syncs c.grays e → IsStoodFor c.fifos e
    → KeepsOrder net domains syncs c.grays e

-- ---- laws

abbrev pub CertifiedIsSound : Type 0
CertifiedIsSound = (net : Net) (domains : Domains) (c : Certificate) → Fit net domains → IsCertifiedOn net domains c → IsSoundBy net domains c

abbrev pub CertifiedIsTogether : Type 0
CertifiedIsTogether = (net : Net) (domains : Domains) (c : Certificate) → Fit net domains → IsCertifiedOn net domains c → IsTogetherBy net domains c

abbrev pub CertifiedKeepsOrder : Type 0
CertifiedKeepsOrder = (net : Net) (domains : Domains) (c : Certificate) → Fit net domains → IsCertifiedOn net domains c → KeepOrder net domains c

-- ---- certificates of clean verdicts

-- a load by its crossing, ring and gate alone
abbrev pub plain_load : Load → Load
plain_load l = record l { recirculating = false }

-- the counts of a FIFO
abbrev pub pair_of : Entry → FifoPair
pair_of e = record { wb = e.wb; rb = e.rb }

-- A certificate lists these synchronizers, Gray registers, rings, loads, recirculating or not, and the counts of these FIFOs.
pub record HasListed (syncs : List Sync) (grays : List GrayReg) (rings : List RingEntry) (loads : List Load) (fifos : List Entry) (c : Certificate) : Type 0 where
  pub syncs_listed : c.syncs ≡ map sync_entry syncs
  pub grays_listed : c.grays ≡ grays
  pub rings_listed : c.rings ≡ rings
  pub loads_listed : map plain_load c.loads ≡ map plain_load loads
  pub fifos_listed : c.fifos ≡ map pair_of fifos

-- what a verdict without findings went by makes a certificate that certifies the net
abbrev pub CleanIsCertified : Type 0
CleanIsCertified = (net : Net) (domains : Domains) (fifos : List Entry) (e : VerdictEntry) → (w : IsVerdictOf net domains (is_of_fifo fifos) e)
    → IsAll (IsListedFifo net domains w.syncs e.grays) fifo_key fifos → e.findings ≡ []
    → (c : Certificate) → HasListed w.syncs e.grays e.rings w.loads fifos c → IsCertifiedOn net domains c
