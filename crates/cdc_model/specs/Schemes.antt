-- Crossings, synchronizers, handshake rings and loads, by what the trees of next values show; and what justifies a design.
use Rattle.std.specs.Prelude.{◌≡◌, ◌≤◌, ◌<◌, ◌-◌, ◌||◌, ◌≢◌, ℕ, zero, suc, Bool, true, false, not, Option, Some, List, [], ◌∷◌, ◌++◌, Contains, ◌⊎◌, slice_get}
use Rattle.std.specs.List.{AllByRecursion, list_any}
use Rattle.cdc_base.specs.declared.bit.Bit.{Bit}
use Rattle.cell_graph.specs.Reading.{bit_eq, Reading, Cube, Meets}
use Rattle.cdc_model.specs.Design.{Design, are_async, group, settle_of}
use Rattle.cdc_model.specs.declared.scheme.GrayReg.{GrayReg}
use Rattle.cdc_model.specs.declared.scheme.Load.{Load}
use Rattle.cdc_model.specs.Gray.{IsGray}

-- the bit stands at place n of the list
abbrev pub IsAt : ℕ → Bit → List Bit → Type 0
IsAt n x [] = ⊥
IsAt zero x (b ∷ bs) = x ≡ b
IsAt (suc n) x (b ∷ bs) = IsAt n x bs

-- What the trees of next values show where a cube fixes some bits.
pub record Trees : Type 0 where
  -- of x's next value: its value where it is known, the bit that it equals, and whether it reads b
  pub known : Cube → Bit → Option Bool
  pub same : Cube → Bit → Option Bit
  pub reads : Cube → Bit → Bit → Bool
  -- a top output reads the bit
  pub is_output : Bit → Bool
  -- the two registers have one of the shapes of a counter and its Gray code
  pub is_gray : GrayReg → Bool

-- What the trees show of register bits is so, and each clock has one to three cycles to settle.
pub record AreTrees (d : Design) (t : Trees) : Type 0 where
  pub settles : (c : ℕ) → (1 ≤ d.settle c) × (d.settle c ≤ 3)
  -- a bit with a clock lies in its signal
  pub within : (b : Bit) (c : ℕ) → d.clock b ≡ Some c → b.at < d.width b.sig
  -- a plain copy is one by its tree, without a cube
  pub copied : (x : Bit) → d.is_register x ≡ true → d.copied x ≡ t.same [] x
  -- known, same and reads hold in every reading of the cube
  pub known : (cube : Cube) (x : Bit) (v : Bool) → d.is_register x ≡ true → t.known cube x ≡ Some v
      → (r : Reading) → Meets cube r → d.next r x ≡ v
  pub same : (cube : Cube) (x b : Bit) → d.is_register x ≡ true → t.same cube x ≡ Some b
      → (r : Reading) → Meets cube r → d.next r x ≡ r b
  pub reads : (cube : Cube) (x : Bit) (r q : Reading) → d.is_register x ≡ true → Meets cube r → Meets cube q
      → ((b : Bit) → t.reads cube x b ≡ true → r b ≡ q b) → d.next r x ≡ d.next q x
  -- what equals a bit reads that bit, and no other
  pub same_reads : (cube : Cube) (x b : Bit) → d.is_register x ≡ true → t.same cube x ≡ Some b → t.reads cube x b ≡ true
  pub same_only : (cube : Cube) (x b a : Bit) → d.is_register x ≡ true → t.same cube x ≡ Some b → t.reads cube x a ≡ true → a ≡ b
  -- a shape of a counter and its code is one, and a next value reads finitely many bits
  pub grays : (g : GrayReg) → t.is_gray g ≡ true → IsGray d g
  pub finite : (x : Bit) → (bs : List Bit) × ((b : Bit) → t.reads [] x b ≡ true → Contains bs b)

-- A crossing: the register bit x reads b, of another group.
pub record IsCrossing (d : Design) (t : Trees) (b x : Bit) : Type 0 where
  pub register : d.is_register x ≡ true
  pub reads : t.reads [] x b ≡ true
  pub async : are_async d b x ≡ true

-- g is a plain copy of f on f's clock and the only register bit that reads f, and no top output reads f.
pub record Follows (d : Design) (t : Trees) (f g : Bit) : Type 0 where
  pub register : d.is_register g ≡ true
  pub copy : d.copied g ≡ Some f
  pub clock : d.clock g ≡ d.clock f
  pub only : (x : Bit) → d.is_register x ≡ true → t.reads [] x f ≡ true → x ≡ g
  pub hidden : t.is_output f ≡ false

-- A synchronizer: its source, its first flop, and the further ones.
pub record Sync : Type 0 where
  pub from : Bit
  pub first : Bit
  pub more : List Bit

-- the flops behind f: m that must be there, and then as many as there are, n at most
abbrev pub IsChain : Design → Trees → ℕ → ℕ → Bit → List Bit → Type 0
IsChain d t (suc m) n f [] = ⊥
IsChain d t (suc m) n f (g ∷ gs) = Follows d t f g × IsChain d t m n g gs
IsChain d t zero n f [] = (n ≡ 0) ⊎ ((g : Bit) → Follows d t f g → ⊥)
IsChain d t zero zero f (g ∷ gs) = ⊥
IsChain d t zero (suc n) f (g ∷ gs) = Follows d t f g × IsChain d t zero n g gs

-- A synchronizer from a crossing into a plain copy: as many flops as its clock has cycles to settle, one more, and those that go on, four at most.
pub record IsSync (d : Design) (t : Trees) (s : Sync) : Type 0 where
  pub crossing : IsCrossing d t s.from s.first
  pub copy : d.copied s.first ≡ Some s.from
  pub chain : IsChain d t (settle_of d s.first) (3 - settle_of d s.first) s.first s.more

-- each item is a synchronizer
abbrev pub AreSyncs : Design → Trees → List Sync → Type 0
AreSyncs d t syncs = (s : Sync) → Contains syncs s → IsSync d t s

-- all flops of a synchronizer
abbrev pub flops : Sync → List Bit
flops s = s.first ∷ s.more

-- x is one of the first n
abbrev pub in_first : ℕ → Bit → List Bit → Bool
in_first zero x fs = false
in_first (suc n) x [] = false
in_first (suc n) x (f ∷ fs) = bit_eq f x || in_first n x fs

-- x is a settling flop: one of the first flops of a synchronizer, as many as its clock has cycles to settle
abbrev pub is_settling : Design → List Sync → Bit → Bool
is_settling d syncs x = list_any (λ s. in_first (settle_of d s.first) x (flops s)) syncs

-- the last flop behind f
abbrev pub last_of : Bit → List Bit → Bit
last_of f [] = f
last_of f (g ∷ gs) = last_of g gs

abbrev pub last_flop : Sync → Bit
last_flop s = last_of s.first s.more

-- A handshake: the synchronizer of the request, and the synchronizer of the acknowledgement back.
pub record Ring : Type 0 where
  pub there : Sync
  pub back : Sync

abbrev pub request : Ring → Bit
request r = r.there.from

abbrev pub acknowledge : Ring → Bit
acknowledge r = r.back.from

-- the ring behind the request: the flops there, the acknowledgement, and the flops back
abbrev pub behind_request : Ring → List Bit
behind_request r = flops r.there ++ acknowledge r ∷ flops r.back

-- the whole ring, from the request on
abbrev pub ring_bits : Ring → List Bit
ring_bits r = request r ∷ behind_request r

-- A ring: the request waits for its last flop back, and the acknowledgement follows its last flop there.
pub record IsRing (d : Design) (t : Trees) (syncs : List Sync) (r : Ring) : Type 0 where
  -- two listed synchronizers between two groups
  pub there : Contains syncs r.there
  pub back : Contains syncs r.back
  pub registers : (d.is_register (request r) ≡ true) × (d.is_register (acknowledge r) ≡ true)
  pub there_group : group d (acknowledge r) ≡ group d r.there.first
  pub back_group : group d r.back.first ≡ group d (request r)
  pub apart : acknowledge r ≢ last_flop r.there
  -- all its bits have known start values, which are equal
  pub start : (v : Bool) × AllByRecursion (λ b. d.start b ≡ Some v) (ring_bits r)
  -- the request reads the ring's last flop
  pub reads : t.reads [] (request r) (last_flop r.back) ≡ true
  -- the request stays while the ring's last flop differs, and the acknowledgement while the last flop there agrees
  pub waits : (v : Bool) → t.known ((request r, v) ∷ (last_flop r.back, not v) ∷ []) (request r) ≡ Some v
  pub answers : (v : Bool) → t.known ((last_flop r.there, v) ∷ (acknowledge r, v) ∷ []) (acknowledge r) ≡ Some v

-- the ring from the request up to the acknowledgement
abbrev pub up_to_acknowledge : Ring → List Bit
up_to_acknowledge r = request r ∷ flops r.there ++ acknowledge r ∷ []

-- A bit of the requesting group is held: it keeps its value while the request and the ring's last flop differ.
pub record IsHeld (d : Design) (t : Trees) (r : Ring) (b : Bit) : Type 0 where
  pub register : d.is_register b ≡ true
  pub group : group d b ≡ group d (request r)
  pub holds : (v : Bool) → t.same ((request r, v) ∷ (last_flop r.back, not v) ∷ []) b ≡ Some b

-- A gate: adjacent bits of the ring, from the second flop up to the acknowledgement.
pub record IsGate (r : Ring) (place : ℕ) (p q : Bit) : Type 0 where
  pub behind_first : 2 ≤ place
  pub one : IsAt place p (up_to_acknowledge r)
  pub next : IsAt (suc place) q (up_to_acknowledge r)

-- A bit of the acknowledging group is blind to b: it doesn't read b while the gate's bits are equal.
pub record IsBlind (d : Design) (t : Trees) (r : Ring) (place : ℕ) (b x : Bit) : Type 0 where
  pub group : group d x ≡ group d (acknowledge r)
  pub gate : (p q : Bit) × IsGate r place p q × ((v : Bool) → t.reads ((p, v) ∷ (q, v) ∷ []) x b ≡ false)

-- A load: a crossing into no plain copy, whose data a ring holds and whose end is blind at the gate.
pub record IsLoad (d : Design) (t : Trees) (rings : List Ring) (l : Load) : Type 0 where
  pub crossing : IsCrossing d t l.from l.to
  pub no_copy : d.copied l.to ≢ Some l.from
  pub ring : (r : Ring) × (slice_get rings l.ring ≡ Some r) × IsHeld d t r l.from × IsBlind d t r l.gate l.from l.to

-- Synchronizers, Gray registers, rings and loads justify a design, with crossings that something else justifies.
pub record Justified (d : Design) (t : Trees) (syncs : List Sync) (grays : List GrayReg) (rings : List Ring) (loads : List Load) (is_extra : Bit → Bit → Bool) : Type 0 where
  -- each listed item is what it is listed as
  pub are_syncs : (s : Sync) → Contains syncs s → IsSync d t s
  pub are_grays : (g : GrayReg) → Contains grays g → t.is_gray g ≡ true
  pub are_rings : (r : Ring) → Contains rings r → IsRing d t syncs r
  pub are_loads : (l : Load) → Contains loads l → IsLoad d t rings l
  -- each crossing is that of a first flop, of a load, or one that something else justifies
  pub each : (b x : Bit) → IsCrossing d t b x → ((s : Sync) × Contains syncs s × (s.from ≡ b) × (s.first ≡ x))
      ⊎ (((l : Load) × Contains loads l × (l.from ≡ b) × (l.to ≡ x)) ⊎ (is_extra b x ≡ true))
  -- no two synchronizers lead from one source into one group
  pub once : (i j : ℕ) (s r : Sync) → slice_get syncs i ≡ Some s → slice_get syncs j ≡ Some r → s.from ≡ r.from → group d s.first ≡ group d r.first → i ≡ j
  -- different bits of one word enter a group by synchronizers only as a Gray code
  pub words : (s r : Sync) → Contains syncs s → Contains syncs r → s.from.sig ≡ r.from.sig → group d s.first ≡ group d r.first
      → (s.from ≡ r.from) ⊎ ((g : GrayReg) × Contains grays g × (g.gray ≡ s.from.sig))
