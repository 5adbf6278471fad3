-- The verdict on a design: all its crossings, what covers them, and all findings.
use Rattle.std.specs.Prelude.{◌≡◌, ◌≢◌, ℕ, suc, ◌<◌, ◌==◌, Bool, true, false, cond, ◌&&◌, Option, Some, None, List, [], ◌∷◌, length, map, filter, Contains, ◌⊎◌, ◌↔◌, slice_get}
use Rattle.std.specs.List.{list_any}
use Rattle.cdc_base.specs.declared.bit.Bit.{Bit}
use Rattle.cell_graph.specs.Reading.{bit_eq}
use Rattle.cdc_model.specs.declared.scheme.Arrival.{Arrival}
use Rattle.cdc_model.specs.declared.scheme.Cover.{Cover}
use Rattle.cdc_model.specs.declared.scheme.Crossing.{Crossing}
use Rattle.cdc_model.specs.declared.scheme.GrayReg.{GrayReg}
use Rattle.cdc_model.specs.declared.scheme.Scheme.{Scheme}
use Rattle.cdc_model.specs.declared.scheme.Scheme.TheVariants.{TwoFlop, Gray, Handshake, Recirc}
use Rattle.cdc_model.specs.Design.{Design, group, are_equal}
use Rattle.cdc_model.specs.Ordered.{IsAll}
use Rattle.cdc_model.specs.declared.scheme.Load.{Load}
use Rattle.cdc_model.specs.Schemes.{Trees, IsCrossing, Sync, flops, IsSync, Ring, request, acknowledge, IsRing, IsHeld, IsGate, IsBlind, IsLoad}
use Rattle.cdc_model.specs.Together.{Reads}

-- a bit as a key, before further numbers
abbrev pub bit_key : Bit → List ℕ → List ℕ
bit_key b more = b.sig ∷ b.at ∷ more

-- the signal is the code of a Gray register
abbrev pub is_code : List GrayReg → ℕ → Bool
is_code grays word = list_any (λ g. g.gray == word) grays

-- the scheme of a first flop's crossing, with the number of flops
abbrev pub scheme_of_sync : List GrayReg → Sync → Scheme
scheme_of_sync grays s = cond (is_code grays s.from.sig) (Gray (length (flops s))) (TwoFlop (length (flops s)))

-- the scheme of a load, with its ring
abbrev pub scheme_of_load : Load → Scheme
scheme_of_load l = cond l.recirculating (Recirc l.ring) (Handshake l.ring)

-- a cover: the crossing of a first flop, or a load
abbrev pub IsCover : List GrayReg → List Sync → List Load → Cover → Type 0
IsCover grays syncs loads c = ((s : Sync) × Contains syncs s × (c ≡ record { from = s.from; to = s.first; scheme = scheme_of_sync grays s }))
    ⊎ ((l : Load) × Contains loads l × (c ≡ record { from = l.from; to = l.to; scheme = scheme_of_load l }))

-- the list has exactly the covers
abbrev pub AreCovers : List GrayReg → List Sync → List Load → List Cover → Type 0
AreCovers grays syncs loads covers = (c : Cover) → Contains covers c ↔ IsCover grays syncs loads c

-- b is a bit of the ring's requesting group, and x one of its acknowledging group.
pub record IsBetween (d : Design) (r : Ring) (b x : Bit) : Type 0 where
  pub from : group d b ≡ group d (request r)
  pub to : group d x ≡ group d (acknowledge r)

-- the ring holds b
abbrev pub HoldsUnder : Design → Trees → Bit → Bit → Ring → Type 0
HoldsUnder d t b x r = IsBetween d r b x × IsHeld d t r b

-- at some gate of the ring x is blind to b
abbrev pub BlindUnder : Design → Trees → Bit → Bit → Ring → Type 0
BlindUnder d t b x r = IsBetween d r b x × ((place : ℕ) × IsBlind d t r place b x)

-- P holds of the ring with this number, and of none before it
abbrev pub IsFirstRing : (Ring → Type 0) → List Ring → ℕ → Type 0
IsFirstRing P rings n = ((r : Ring) × (slice_get rings n ≡ Some r) × P r) × ((m : ℕ) (q : Ring) → m < n → slice_get rings m ≡ Some q → P q → ⊥)

-- A load with the first ring and the first gate that serve it.
pub record IsFirstLoad (d : Design) (t : Trees) (rings : List Ring) (l : Load) : Type 0 where
  pub load : IsLoad d t rings l
  pub first_ring : IsFirstRing (λ r. HoldsUnder d t l.from l.to r × BlindUnder d t l.from l.to r) rings l.ring
  pub first_gate : (r : Ring) (place : ℕ) → slice_get rings l.ring ≡ Some r → place < l.gate → IsBlind d t r place l.from l.to → ⊥
  pub recirculates : (r : Ring) (p q : Bit) → slice_get rings l.ring ≡ Some r → IsGate r l.gate p q
      → (l.recirculating ≡ true) ↔ ((v : Bool) → t.same ((p, v) ∷ (q, v) ∷ []) l.to ≡ Some l.to)

-- x reads the arrival, which comes from the group
abbrev pub IsReadArrival : Design → Trees → List Sync → Bit → ℕ → Arrival → Type 0
IsReadArrival d t syncs x g a = (s : Sync) × (n : ℕ) × Reads d t syncs x g n s a.bit × (a.source ≡ s.from) × (a.depth ≡ suc n)

-- A family of arrivals: by the source's word, where that is a Gray code, or else by the source, and by the group that was entered.
pub data Family : Type 0 where
  OfWord : ℕ → Option ℕ → Family
  OfBit : Bit → Option ℕ → Family

-- the family of a synchronizer's arrivals
abbrev pub family : Design → List GrayReg → Sync → Family
family d grays s = cond (is_code grays s.from.sig) (OfWord s.from.sig (group d s.first)) (OfBit s.from (group d s.first))

-- A finding, by what it is one of: a crossing, a word or bit that enters a group, a reader, with the ring concerned.
pub data Finding : Type 0 where
  V1 : (from to : Bit) → Finding
  V2 : (from to : Bit) → Finding
  V3 : (word group : ℕ) → Finding
  V4 : (from : Bit) (group : ℕ) → Finding
  V5 : (word group : ℕ) → Finding
  V6 : (to : Bit) (group : ℕ) → Finding
  V7 : (from to : Bit) (ring : ℕ) → Finding
  V8 : (from to : Bit) (ring : ℕ) → Finding

-- the crossing is a cover, or a further one
abbrev pub IsServed : List Sync → List Load → (Bit → Bit → Bool) → Bit → Bit → Type 0
IsServed syncs loads is_extra b x = ((s : Sync) × Contains syncs s × (s.from ≡ b) × (s.first ≡ x))
    ⊎ (((l : Load) × Contains loads l × (l.from ≡ b) × (l.to ≡ x)) ⊎ (is_extra b x ≡ true))

module _ (d : Design) (t : Trees) (grays : List GrayReg) (syncs : List Sync) (rings : List Ring) (loads : List Load) (is_extra : Bit → Bit → Bool) where
  -- a crossing into a plain copy that is no first flop
  abbrev pub IsBareCopy : Bit → Bit → Type 0
  IsBareCopy b x = IsCrossing d t b x × (d.copied x ≡ Some b) × ((s : Sync) → Contains syncs s → s.first ≢ x)

  -- a crossing that nothing serves, and into no such copy
  abbrev pub IsOpen : Bit → Bit → Type 0
  IsOpen b x = IsCrossing d t b x × (IsServed syncs loads is_extra b x → ⊥) × (IsBareCopy b x → ⊥)

  -- such a crossing whose end is blind under the ring, the first such one
  abbrev pub IsOnlyBlind : Bit → Bit → ℕ → Type 0
  IsOnlyBlind b x n = IsOpen b x × IsFirstRing (BlindUnder d t b x) rings n

  -- such a crossing that is blind under no ring, and whose data the ring holds, the first such one
  abbrev pub IsOnlyHeld : Bit → Bit → ℕ → Type 0
  IsOnlyHeld b x n = IsOpen b x × ((m : ℕ) → IsOnlyBlind b x m → ⊥) × IsFirstRing (HoldsUnder d t b x) rings n

  -- Two synchronizers into the group.
  pub record IsPair (g : ℕ) (s r : Sync) : Type 0 where
    pub one : Contains syncs s
    pub other : Contains syncs r
    pub one_group : group d s.first ≡ Some g
    pub other_group : group d r.first ≡ Some g

  -- what each finding says
  abbrev pub IsFinding : Finding → Type 0
  IsFinding (V1 b x) = IsOpen b x × ((n : ℕ) → IsOnlyBlind b x n → ⊥) × ((n : ℕ) → IsOnlyHeld b x n → ⊥)
  IsFinding (V2 b x) = IsBareCopy b x
  -- several bits of a word that is no Gray code
  IsFinding (V3 w g) = ((s : Sync) × (r : Sync) × IsPair g s r × (s.from.sig ≡ w) × (r.from.sig ≡ w) × (s.from ≢ r.from)) × (is_code grays w ≡ false)
  -- several first flops of a bit
  IsFinding (V4 b g) = (s : Sync) × (r : Sync) × IsPair g s r × (s.from ≡ b) × (r.from ≡ b) × (s.first ≢ r.first)
  -- first flops of a word on several clocks
  IsFinding (V5 w g) = (s : Sync) × (r : Sync) × IsPair g s r × (s.from.sig ≡ w) × (r.from.sig ≡ w) × (d.clock s.first ≢ d.clock r.first)
  -- no plain copy, and a reader of arrivals of several families
  IsFinding (V6 x g) = (d.is_register x ≡ true) × (d.copied x ≡ None)
      × ((s : Sync) × (r : Sync) × (y : Bit) × (z : Bit) × (n : ℕ) × (m : ℕ) × Reads d t syncs x g n s y × Reads d t syncs x g m r z × (family d grays s ≢ family d grays r))
  IsFinding (V7 b x n) = IsOnlyBlind b x n
  IsFinding (V8 b x n) = IsOnlyHeld b x n

-- the crossings of the first flops in the group whose sources pass the test
abbrev pub entering : Design → List Sync → ℕ → (Bit → Bool) → List Crossing
entering d syncs g test = map (λ s. record { from = s.from; to = s.first }) (filter (λ s. test s.from && are_equal (group d s.first) (Some g)) syncs)

-- the first flops that a finding of a word or a source bit lists
abbrev pub flops_listed : Design → List Sync → Finding → List Crossing
flops_listed d syncs (V1 b x) = []
flops_listed d syncs (V2 b x) = []
flops_listed d syncs (V3 w g) = entering d syncs g (λ b. b.sig == w)
flops_listed d syncs (V4 a g) = entering d syncs g (bit_eq a)
flops_listed d syncs (V5 w g) = entering d syncs g (λ b. b.sig == w)
flops_listed d syncs (V6 x g) = []
flops_listed d syncs (V7 b x n) = []
flops_listed d syncs (V8 b x n) = []

-- the arrivals that a finding of a reader lists
abbrev pub AreArrivalsListed : Design → Trees → List Sync → (to : Bit) → (group : ℕ) → List Arrival → Type 0
AreArrivalsListed d t syncs x g arrivals = IsAll (IsReadArrival d t syncs x g) (λ a. bit_key a.bit []) arrivals

-- What an audit finds.
pub record Verdict : Type 0 where
  pub crossings : List Crossing
  pub grays : List GrayReg
  pub rings : List Ring
  pub covers : List Cover
  pub findings : List Finding

-- findings go by their number and then by what they are one of
abbrev pub finding_key : Finding → List ℕ
finding_key (V1 b x) = 1 ∷ bit_key x (bit_key b [])
finding_key (V2 b x) = 2 ∷ bit_key x (bit_key b [])
finding_key (V3 w g) = 3 ∷ w ∷ g ∷ []
finding_key (V4 b g) = 4 ∷ bit_key b (g ∷ [])
finding_key (V5 w g) = 5 ∷ w ∷ g ∷ []
finding_key (V6 x g) = 6 ∷ bit_key x (g ∷ [])
finding_key (V7 b x n) = 7 ∷ bit_key x (bit_key b [])
finding_key (V8 b x n) = 8 ∷ bit_key x (bit_key b [])

-- crossings, loads and covers go by their end and then by their source
abbrev pub crossing_key : Crossing → List ℕ
crossing_key c = bit_key c.to (bit_key c.from [])

-- a synchronizer goes by its first flop
abbrev pub sync_key : Sync → List ℕ
sync_key s = bit_key s.first []

-- a Gray register goes by its code, then by its counter
abbrev pub gray_key : GrayReg → List ℕ
gray_key g = g.gray ∷ g.count ∷ []

-- a ring goes by its request, first flop there, acknowledgement and first flop back
abbrev pub ring_key : Ring → List ℕ
ring_key r = bit_key (request r) (bit_key r.there.first (bit_key (acknowledge r) (bit_key r.back.first [])))

abbrev pub load_key : Load → List ℕ
load_key l = bit_key l.to (bit_key l.from [])

abbrev pub cover_key : Cover → List ℕ
cover_key c = bit_key c.to (bit_key c.from [])

-- The verdict of the design: each list holds exactly what there is, in its order.
pub record IsVerdict (d : Design) (t : Trees) (is_extra : Bit → Bit → Bool) (syncs : List Sync) (loads : List Load) (v : Verdict) : Type 0 where
  pub all_crossings : IsAll (λ c. IsCrossing d t c.from c.to) crossing_key v.crossings
  pub all_syncs : IsAll (IsSync d t) sync_key syncs
  pub all_grays : IsAll (λ g. t.is_gray g ≡ true) gray_key v.grays
  pub all_rings : IsAll (IsRing d t syncs) ring_key v.rings
  pub all_loads : IsAll (IsFirstLoad d t v.rings) load_key loads
  pub all_covers : IsAll (IsCover v.grays syncs loads) cover_key v.covers
  pub all_findings : IsAll (IsFinding d t v.grays syncs v.rings loads is_extra) finding_key v.findings
