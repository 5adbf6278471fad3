-- What tables show while a gate is shut.
use Rattle.std.specs.Prelude.{◌≡◌, ◌≤◌, ◌<◌, ◌&&◌, ◌||◌, ℕ, ◌+◌, Bool, not, true, false, Option, Some, None, List, map, Contains, slice_get}
use Rattle.std.specs.List.Sorted.{IsSortedByKey}
use Rattle.std.specs.Option.{option_map_or}
use Rattle.cdc_base.specs.contracts.bit.BitOrd.TheImpl as bit_order
use Rattle.cdc_base.specs.declared.bit.Bit.{Bit}
use Rattle.cell_graph.specs.Cofactor.{reads}
use Rattle.cell_graph.specs.declared.net.Net.{Net}
use Rattle.domains.specs.declared.Domains.{Domains}
use Rattle.domains.specs.Assignment.{group_of}
use Rattle.cdc_model.specs.Design.{are_equal}
use Rattle.cdc_model.specs.declared.scheme.Crossing.{Crossing}
use Rattle.cdc_model.specs.declared.scheme.Ring.{Ring as RingEntry}
use Rattle.cdc_model.specs.Nets.{next_tree}
use Rattle.cdc_model.specs.Tables.{ShowsNext}
use Rattle.mux_recirc.specs.declared.blind.Blind.{Blind}
use Rattle.mux_recirc.specs.declared.blind.Gate.{Gate}
use Rattle.mux_recirc.specs.declared.blind.Shut.{Shut}
use Rattle.mux_recirc.specs.declared.questions.Question.{Question}
use Rattle.mux_recirc.specs.Held.{at_bits}
use Rattle.mux_recirc.specs.Questions.{questions_on}
use Rattle.mux_recirc.specs.Shown.{keeps, equal}

-- the bit keeps its value while the two bits are equal
abbrev pub keeps_shut : Net → Bit → Bit → Bit → Bool
keeps_shut net p q b = keeps net (equal p q false) b && keeps net (equal p q true) b

-- the tables for these bits under the two cubes in which the gate's bits are equal; none for a gate that isn't there
abbrev pub ShowsShut : Net → RingEntry → ℕ → List Bit → Option Shut → Type 0
ShowsShut net e gate bits None = (test : Bit → Bit → Bool) → at_bits (slice_get e.bits gate) (slice_get e.bits (gate + 1)) test ≡ false
ShowsShut net e gate bits (Some shut) = (p : Bit) × (q : Bit) × (slice_get e.bits gate ≡ Some p) × (slice_get e.bits (gate + 1) ≡ Some q)
    × ShowsNext net (equal p q false) shut.low bits × ShowsNext net (equal p q true) shut.high bits

-- the bit has the group of the acknowledgement of the ring with that number
abbrev pub is_behind : Domains → List RingEntry → ℕ → Bit → Bool
is_behind domains entries n b = option_map_or (λ (e : RingEntry). option_map_or (λ a. are_equal (group_of domains b) (group_of domains a)) (slice_get e.bits e.ack) false) (slice_get entries n) false

-- the crossings are in the order of their ends
abbrev pub AreByEnds : List Crossing → Type 0
AreByEnds crossings = IsSortedByKey (λ (k : Crossing). k.to) bit_order.ghosts.cmp crossings

-- x reads b while the two bits are equal
abbrev pub reads_shut : Net → Bit → Bit → Bit → Bit → Bool
reads_shut net p q x b = reads (equal p q false) (next_tree net x.sig) x.at b || reads (equal p q true) (next_tree net x.sig) x.at b

-- x doesn't, and b has the request's group
abbrev pub is_blind : Net → Domains → Bit → Bit → Bit → Bit → Bit → Bool
is_blind net domains p q request x b = not (reads_shut net p q x b) && are_equal (group_of domains b) (group_of domains request)

-- The crossing leads to x, which is blind to its source while the gate's two bits, p and q, are equal.
pub record IsBlindInto (net : Net) (domains : Domains) (crossings : List Crossing) (gate : Gate) (p q x : Bit) (b : Blind) : Type 0 where
  pub crossing : Crossing
  pub at : slice_get crossings b.crossing ≡ Some crossing
  pub to : crossing.to ≡ x
  pub ring : b.ring ≡ gate.ring
  pub gate_place : b.gate ≡ gate.place
  pub recirculates : b.recirculating ≡ keeps_shut net p q x
  pub blind : is_blind net domains p q gate.request x crossing.from ≡ true

-- one of these ends is blind so at the gate of the ring
abbrev pub IsBlindAtGate : Net → Domains → List Crossing → RingEntry → Gate → List Bit → Blind → Type 0
IsBlindAtGate net domains crossings e gate ends b = (p : Bit) × (q : Bit) × (slice_get e.bits gate.place ≡ Some p) × (slice_get e.bits (gate.place + 1) ≡ Some q)
    × ((x : Bit) × Contains ends x × IsBlindInto net domains crossings gate p q x b)

-- at some gate of the ring, from its second flop up to its acknowledgement
abbrev pub IsBlindInRing : Net → Domains → List Crossing → RingEntry → ℕ → List Bit → Blind → Type 0
IsBlindInRing net domains crossings e n ends b = (request : Bit) × (slice_get e.bits 0 ≡ Some request)
    × ((place : ℕ) × (2 ≤ place) × (place < e.ack) × IsBlindAtGate net domains crossings e (record { ring = n; place = place; request = request }) ends b)

-- in some ring, the end being asked about there
abbrev pub IsBlindAmong : Net → Domains → List Crossing → List RingEntry → List Question → Blind → Type 0
IsBlindAmong net domains crossings entries questions b = (n : ℕ) × (e : RingEntry) × (slice_get entries n ≡ Some e)
    × IsBlindInRing net domains crossings e n (map (λ (q : Question). q.bit) (questions_on questions n)) b
