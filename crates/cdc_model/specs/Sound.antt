-- What a clean answer means, in runs, covers and rings alone.
use Rattle.std.specs.Prelude.{◌≡◌, ◌≢◌, ℕ, ◌<◌, Bool, true, false, Option, Some, None, List, ◌∷◌, Contains, ◌⊎◌, slice_get}
use Rattle.cdc_base.specs.declared.bit.Bit.{Bit}
use Rattle.cell_graph.specs.Reading.{bit_eq, Reading}
use Rattle.cdc_model.specs.declared.scheme.Cover.{Cover}
use Rattle.cdc_model.specs.declared.scheme.Scheme.{Scheme}
use Rattle.cdc_model.specs.declared.scheme.Scheme.TheVariants.{TwoFlop, Gray, Handshake, Recirc}
use Rattle.cdc_model.specs.Design.{Design, are_async, settle_of, is_behind, flipped, AgreeBut}
use Rattle.cdc_model.specs.Runs.{State, Trace, Start, Then, now, ticks, AreLoose, around, InEachStep}

-- the scheme is a synchronizer's, and the crossing's end a first flop
abbrev pub is_synchronized : Scheme → Bool
is_synchronized (TwoFlop stages) = true
is_synchronized (Gray stages) = true
is_synchronized (Handshake ring) = false
is_synchronized (Recirc ring) = false

-- the ring of a load
abbrev pub ring_of : Scheme → Option ℕ
ring_of (TwoFlop stages) = None
ring_of (Gray stages) = None
ring_of (Handshake ring) = Some ring
ring_of (Recirc ring) = Some ring

-- x is a settling flop: a first flop or one behind it, as many as its clock has cycles to settle
abbrev pub IsSettlingFlop : Design → List Cover → Bit → Type 0
IsSettlingFlop d covers x = (c : Cover) × Contains covers c × (is_synchronized c.scheme ≡ true) × ((j : ℕ) × (j < settle_of d c.to) × (is_behind d c.to j x ≡ true))

-- a register bit that depends on a bit of another group does so by a cover, or by a further crossing
abbrev pub Covered : Design → List Cover → (Bit → Bit → Bool) → Type 0
Covered d covers is_extra = (b x : Bit) (r q : Reading) → d.is_register x ≡ true → are_async d b x ≡ true → AgreeBut b r q → d.next r x ≢ d.next q x
    → ((c : Cover) × Contains covers c × (c.from ≡ b) × (c.to ≡ x)) ⊎ (is_extra b x ≡ true)

-- One register bit copies f, on f's clock, and no other one depends on f.
pub record IsNext (d : Design) (f g : Bit) : Type 0 where
  pub register : d.is_register g ≡ true
  pub copy : d.copied g ≡ Some f
  pub clock : d.clock g ≡ d.clock f
  pub only : (x : Bit) → d.is_register x ≡ true → d.copied x ≡ Some f → x ≡ g
  pub others : (x : Bit) → d.is_register x ≡ true → x ≢ g → (r q : Reading) → AgreeBut f r q → d.next r x ≡ d.next q x

-- a first flop copies its source, of another group, and behind each settling flop one flop alone depends on it
abbrev pub Settled : Design → List Cover → Type 0
Settled d covers = (c : Cover) → Contains covers c → is_synchronized c.scheme ≡ true
    → (d.copied c.to ≡ Some c.from) × (are_async d c.from c.to ≡ true)
    × ((j : ℕ) (f : Bit) → j < settle_of d c.to → is_behind d c.to j f ≡ true → (g : Bit) × IsNext d f g)

-- no register bit but settling flops takes a value that depends on a loose bit
abbrev pub CalmStep : Design → List Cover → (ℕ → Bool) → State → State → Type 0
CalmStep d covers edges old new = (x : Bit) → d.is_register x ≡ true → ticks d edges x ≡ true → (IsSettlingFlop d covers x → ⊥)
    → (flips : Bit → Bool) → AreLoose d old new.values x flips → d.next (flipped flips old.values) x ≡ d.next old.values x

-- the settling flops of a clock at one place, over bits of the word, have the values of these bits in the reading
abbrev pub HaveWord : Design → List Cover → (clock word place : ℕ) → Reading → Reading → Type 0
HaveWord d covers c word j taken source = (cover : Cover) (x : Bit) → Contains covers cover → is_synchronized cover.scheme ≡ true
    → d.clock cover.to ≡ Some c → cover.from.sig ≡ word → is_behind d cover.to j x ≡ true → taken x ≡ source cover.from

-- what they take in a step is the word as it was before or after one step, that many edges ago
abbrev pub WholeStep : Design → List Cover → Trace → (ℕ → Bool) → State → Type 0
WholeStep d covers past edges new = (c word j : ℕ) (before after : State) → edges c ≡ true → j < d.settle c → around c j (Then past edges new) ≡ Some (before, after)
    → HaveWord d covers c word j new.values before.values ⊎ HaveWord d covers c word j new.values after.values

-- the readings may differ at sources of loads of x alone
abbrev pub AgreeButLoads : List Cover → Bit → Reading → Reading → Type 0
AgreeButLoads covers x r q = (a : Bit) → ((c : Cover) → Contains covers c → is_synchronized c.scheme ≡ false → c.to ≡ x → c.from ≢ a) → r a ≡ q a

-- x depends on b, whatever the sources of its loads hold
abbrev pub LeansOn : Design → List Cover → Reading → Bit → Bit → Type 0
LeansOn d covers s x b = (r : Reading) × AgreeButLoads covers x r s × (d.next r x ≢ d.next (flipped (bit_eq b) r) x)

-- some step changed the request, and each step after it kept b
abbrev pub KeptSince : Bit → Bit → Trace → Type 0
KeptSince request b (Start s) = ⊥
KeptSince request b (Then past edges s) = ((now past).values request ≢ s.values request)
    ⊎ (((now past).values b ≡ s.values b) × KeptSince request b past)

-- data that a load takes hasn't changed since its request changed last, nor does it in this step
abbrev pub HeldStep : Design → List Cover → List (List Bit) → Trace → (ℕ → Bool) → State → Type 0
HeldStep d covers rings past edges new = (c : Cover) (k : ℕ) → Contains covers c → ring_of c.scheme ≡ Some k → ticks d edges c.to ≡ true → LeansOn d covers (now past).values c.to c.from
    → (request : Bit) × (others : List Bit) × (slice_get rings k ≡ Some (request ∷ others))
    × ((now past).values c.from ≡ new.values c.from) × KeptSince request c.from past

-- each load's ring is listed
abbrev pub HasRings : List Cover → List (List Bit) → Type 0
HasRings covers rings = (c : Cover) (n : ℕ) → Contains covers c → ring_of c.scheme ≡ Some n → (request : Bit) × (others : List Bit) × (slice_get rings n ≡ Some (request ∷ others))

-- A design is sound with its covers, its rings and further crossings.
pub record Sound (d : Design) (covers : List Cover) (rings : List (List Bit)) (is_extra : Bit → Bit → Bool) : Type 0 where
  pub covered : Covered d covers is_extra
  pub settled : Settled d covers
  pub calm : InEachStep d (λ past edges new. CalmStep d covers edges (now past) new)
  pub whole : InEachStep d (WholeStep d covers)
  pub ringed : HasRings covers rings
  pub held : InEachStep d (HeldStep d covers rings)
