-- What a certificate certifies.
use Rattle.std.specs.Prelude.{◌≡◌, Bool, cond, List, [], ◌∷◌, ◌++◌, map, length, Contains, ⊤}
use Rattle.cdc_base.specs.declared.bit.Bit.{Bit}
use Rattle.cdc_model.specs.declared.scheme.Cover.{Cover}
use Rattle.cdc_model.specs.declared.scheme.GrayReg.{GrayReg}
use Rattle.cdc_model.specs.declared.scheme.Load.{Load}
use Rattle.cdc_model.specs.declared.scheme.Ring.{Ring as RingEntry}
use Rattle.cdc_model.specs.declared.scheme.Scheme.TheVariants.{TwoFlop, Gray}
use Rattle.cdc_model.specs.declared.scheme.Sync.{Sync as SyncEntry}
use Rattle.cdc_model.specs.Design.{Design}
use Rattle.cdc_model.specs.Listed.{sync_entry, ring_entry}
use Rattle.cdc_model.specs.Schemes.{Trees, Sync, IsSync, Ring, IsRing, IsLoad, Justified}
use Rattle.cdc_model.specs.Verdict.{is_code, scheme_of_load}
use Rattle.cert_text.specs.declared.certificate.Certificate.{Certificate}
use Rattle.cert_text.specs.declared.certificate.Entry.{Entry}
use Rattle.cert_text.specs.declared.certificate.Entry.TheVariants as entry
use Rattle.fifo_scheme.specs.declared.found.FifoPair.{FifoPair}

-- The certificate's lines are those of these synchronizers and rings.
pub record AreMeant (c : Certificate) (syncs : List Sync) (rings : List Ring) : Type 0 where
  pub syncs_listed : c.syncs ≡ map sync_entry syncs
  pub rings_listed : c.rings ≡ map ring_entry rings

-- A certificate certifies a design: its items justify the design, with the crossings of the FIFOs for which its
-- pairs stand, of which each pair stands for one.
pub record IsCertified (d : Design) (t : Trees) (is_gray : GrayReg → Type 0) (stands : FifoPair → Type 0) (is_extra : Bit → Bit → Bool) (c : Certificate) : Type 0 where
  pub syncs : List Sync
  pub rings : List Ring
  pub meant : AreMeant c syncs rings
  pub grays : (g : GrayReg) → Contains c.grays g → is_gray g
  pub fifos : (p : FifoPair) → Contains c.fifos p → stands p
  pub justified : Justified d t syncs c.grays rings c.loads is_extra

-- ---- items

-- the line's synchronizer, ring and load are what they are listed as
abbrev pub IsSyncItem : Design → Trees → SyncEntry → Type 0
IsSyncItem d t e = (s : Sync) × (e ≡ sync_entry s) × IsSync d t s

abbrev pub IsRingItem : Design → Trees → List SyncEntry → RingEntry → Type 0
IsRingItem d t entries e = (syncs : List Sync) × (entries ≡ map sync_entry syncs) × ((r : Ring) × (e ≡ ring_entry r) × IsRing d t syncs r)

abbrev pub IsLoadItem : Design → Trees → List RingEntry → Load → Type 0
IsLoadItem d t entries l = (rings : List Ring) × (entries ≡ map ring_entry rings) × IsLoad d t rings l

-- an item is what it is listed as; a pair stands for a FIFO
abbrev pub IsItem : Design → Trees → (GrayReg → Type 0) → (FifoPair → Type 0) → Certificate → Entry → Type 0
IsItem d t is_gray stands c (entry.Sync s) = IsSyncItem d t s
IsItem d t is_gray stands c (entry.Gray g) = is_gray g
IsItem d t is_gray stands c (entry.Ring r) = IsRingItem d t c.syncs r
IsItem d t is_gray stands c (entry.Load l) = IsLoadItem d t c.rings l
IsItem d t is_gray stands c (entry.Fifo p) = stands p
IsItem d t is_gray stands c entry.End = ⊤

-- ---- covers

-- a synchronizer's cover, with the number of its flops; loads are handshakes unless they are known to recirculate
abbrev pub sync_cover : List GrayReg → Bit → List Bit → List Cover
sync_cover grays from [] = []
sync_cover grays from (f ∷ fs) =
    record { from = from; to = f; scheme = cond (is_code grays from.sig) (Gray (length (f ∷ fs))) (TwoFlop (length (f ∷ fs))) } ∷ []

abbrev pub sync_covers : List GrayReg → List SyncEntry → List Cover
sync_covers grays [] = []
sync_covers grays (s ∷ ss) = sync_cover grays s.from s.flops ++ sync_covers grays ss

abbrev pub load_cover : Load → Cover
load_cover l = record { from = l.from; to = l.to; scheme = scheme_of_load l }

-- the covers of a certificate: the crossing of each synchronizer's first flop, and each load
abbrev pub covers_of : Certificate → List Cover
covers_of c = sync_covers c.grays c.syncs ++ map load_cover c.loads
