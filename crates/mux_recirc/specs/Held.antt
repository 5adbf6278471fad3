-- Bits that keep their value while a ring is under way, question by question.
use Rattle.std.specs.Prelude.{◌≡◌, ◌<◌, ◌-◌, ◌&&◌, ℕ, Bool, true, false, cond, Option, Some, None, List, [], ◌∷◌, length, map, filter, Contains, slice_get, option_and_then, is_some}
use Rattle.std.specs.Option.{option_map_or}
use Rattle.cdc_base.specs.declared.bit.Bit.{Bit}
use Rattle.cell_graph.specs.declared.net.Net.{Net}
use Rattle.domains.specs.declared.Domains.{Domains}
use Rattle.domains.specs.Assignment.{group_of}
use Rattle.cdc_model.specs.Design.{are_equal}
use Rattle.cdc_model.specs.declared.scheme.Ring.{Ring as RingEntry}
use Rattle.cdc_model.specs.declared.scheme.Crossing.{Crossing}
use Rattle.cdc_model.specs.Nets.{bit_count, next_node_of}
use Rattle.cdc_model.specs.Tables.{ShowsNext}
use Rattle.mux_recirc.specs.declared.held.Busy.{Busy}
use Rattle.mux_recirc.specs.declared.questions.Question.{Question}
use Rattle.mux_recirc.specs.declared.parts.Part.{Part}
use Rattle.mux_recirc.specs.Shown.{keeps, differing}

-- the bit keeps its value while the two bits differ
abbrev pub keeps_between : Net → Bit → Bit → Bit → Bool
keeps_between net request last b = keeps net (differing request last true) b && keeps net (differing request last false) b

-- the test holds of the two bits that are there
abbrev pub at_bits : Option Bit → Option Bit → (Bit → Bit → Bool) → Bool
at_bits None p test = false
at_bits (Some a) None test = false
at_bits (Some a) (Some b) test = test a b

-- the bit keeps its value while the ring's request and its last flop back differ
abbrev pub keeps_in : Net → RingEntry → Bit → Bool
keeps_in net e b = at_bits (slice_get e.bits 0) (slice_get e.bits (length e.bits - 1)) (λ request last. keeps_between net request last b)

-- the tables for these bits under the two cubes in which the ends differ; none for a ring without bits
abbrev pub ShowsBusy : Net → RingEntry → List Bit → Option Busy → Type 0
ShowsBusy net e bits None = (test : Bit → Bit → Bool) → at_bits (slice_get e.bits 0) (slice_get e.bits (length e.bits - 1)) test ≡ false
ShowsBusy net e bits (Some busy) = (request : Bit) × (last : Bit) × (slice_get e.bits 0 ≡ Some request) × (slice_get e.bits (length e.bits - 1) ≡ Some last)
    × ShowsNext net (differing request last true) busy.rising bits × ShowsNext net (differing request last false) busy.falling bits

-- each question is on a bit within its signal
abbrev pub AreWithin : Net → List Question → Type 0
AreWithin net questions = (q : Question) → Contains questions q → q.bit.at < bit_count net.graph.signals q.bit.sig

abbrev pub part_asked : Question → Part
part_asked q = record { bit = q.bit; ring = q.ring }

-- the part, if the answer is yes
abbrev pub part_if : Bool → Question → List Part
part_if holds q = cond holds (part_asked q ∷ []) []

-- the questions on one ring that are answered with yes
abbrev pub held_in : Net → RingEntry → List Question → List Part
held_in net e questions = map part_asked (filter (λ (q : Question). keeps_in net e q.bit) questions)

-- the question that asks for the part
abbrev pub question_of : Part → Question
question_of p = record { ring = p.ring; bit = p.bit }

-- the part is asked for, and its ring holds its bit
abbrev pub IsAnswered : Net → List RingEntry → List Question → Part → Type 0
IsAnswered net entries questions p = Contains questions (question_of p) × ((e : RingEntry) × (slice_get entries p.ring ≡ Some e) × (keeps_in net e p.bit ≡ true))

-- ---- what is asked

-- the request of the ring with that number
abbrev pub request_at : List RingEntry → ℕ → Option Bit
request_at entries n = option_and_then (λ (e : RingEntry). slice_get e.bits 0) (slice_get entries n)

-- the bit has the group of the ring's request
abbrev pub is_before : Domains → List RingEntry → ℕ → Bit → Bool
is_before domains entries n b = option_map_or (λ request. are_equal (group_of domains b) (group_of domains request)) (request_at entries n) false

-- the sources of the crossings that are bits of registers
abbrev pub sources_among : Net → List Crossing → List Bit
sources_among net crossings = map (λ (k : Crossing). k.from) (filter (λ (k : Crossing). is_some (next_node_of net k.from)) crossings)
