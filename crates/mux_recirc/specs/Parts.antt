-- The bits that have a part in rings.
use Rattle.std.specs.Prelude.{◌≡◌, ◌⊎◌, ◌≤◌, ◌-◌, ℕ, suc, Option, Some, None, List, [], ◌∷◌, ◌++◌, length, take, drop, slice_get, map, filter}
use Rattle.cdc_base.specs.declared.bit.Bit.{Bit}
use Rattle.cell_graph.specs.Reading.{bit_eq}
use Rattle.cdc_model.specs.declared.scheme.Ring.{Ring as RingEntry}
use Rattle.cdc_model.specs.Schemes.{Ring, request, last_flop, IsAt, up_to_acknowledge}
use Rattle.mux_recirc.specs.declared.parts.Part.{Part}

-- the bit is the ring's request or its last flop back
abbrev pub IsEnd : Ring → Bit → Type 0
IsEnd r b = (b ≡ request r) ⊎ (b ≡ last_flop r.back)

-- the bit is one of a gate's: it stands from the second flop up to the acknowledgement
abbrev pub MayGate : Ring → Bit → Type 0
MayGate r b = (place : ℕ) × (2 ≤ place) × IsAt place b (up_to_acknowledge r)

-- the bit has the part in the ring with that number
abbrev pub IsPart : (Ring → Bit → Type 0) → List Ring → Part → Type 0
IsPart P rings p = (r : Ring) × (slice_get rings p.ring ≡ Some r) × P r p.bit

-- ---- the same of a ring as a list of bits

abbrev pub bit_there : Option Bit → List Bit
bit_there None = []
bit_there (Some b) = b ∷ []

-- the request and the last flop back
abbrev pub end_bits : RingEntry → List Bit
end_bits e = bit_there (slice_get e.bits 0) ++ bit_there (slice_get e.bits (length e.bits - 1))

-- from the second flop up to the acknowledgement
abbrev pub gate_bits : RingEntry → List Bit
gate_bits e = take (e.ack - 1) (drop 2 e.bits)

-- the parts of these bits in one ring
abbrev pub parts_in : ℕ → List Bit → List Part
parts_in n bits = map (λ (b : Bit). record { bit = b; ring = n }) bits

-- the parts in all rings, the first of which has the number n
abbrev pub parts_from : (RingEntry → List Bit) → ℕ → List RingEntry → List Part
parts_from bits n [] = []
parts_from bits n (e ∷ es) = parts_in n (bits e) ++ parts_from bits (suc n) es

-- ---- looked up by bits

-- the parts of a bit, and the rings in which it has one
abbrev pub parts_at : List Part → Bit → List Part
parts_at parts b = filter (λ (p : Part). bit_eq p.bit b) parts

abbrev pub rings_at : List Part → Bit → List ℕ
rings_at parts b = map (λ (p : Part). p.ring) (parts_at parts b)

-- the rings in which one of the bits has a part, bit by bit
abbrev pub rings_among : List Part → List Bit → List ℕ
rings_among parts [] = []
rings_among parts (b ∷ bs) = rings_at parts b ++ rings_among parts bs
