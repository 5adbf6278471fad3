-- Which bits read which bits of rings.
use Rattle.std.specs.Prelude.{◌≡◌, ◌<◌, ◌==◌, ℕ, List, [], map, filter, Contains}
use Rattle.cdc_base.specs.declared.bit.Bit.{Bit}
use Rattle.cell_graph.specs.declared.net.Net.{Net}
use Rattle.cdc_model.specs.Found.{bits_read_by}
use Rattle.cdc_model.specs.Nets.{bit_count}
use Rattle.mux_recirc.specs.declared.parts.Part.{Part}
use Rattle.mux_recirc.specs.declared.questions.Question.{Question}
use Rattle.mux_recirc.specs.Parts.{rings_among}

-- each bit lies in its signal
abbrev pub AreBitsWithin : Net → List Bit → Type 0
AreBitsWithin net bits = (b : Bit) → Contains bits b → b.at < bit_count net.graph.signals b.sig

-- the question on each of these rings
abbrev pub asked_on : List ℕ → Bit → List Question
asked_on rings b = map (λ (n : ℕ). record { ring = n; bit = b }) rings

-- the bit reads one that has a part in the ring
abbrev pub IsAskedOf : Net → List Part → Bit → Question → Type 0
IsAskedOf net parts b q = (q.bit ≡ b) × Contains (rings_among parts (bits_read_by net [] b)) q.ring

-- one of these bits does
abbrev pub IsAsked : Net → List Part → List Bit → Question → Type 0
IsAsked net parts bits q = Contains bits q.bit × Contains (rings_among parts (bits_read_by net [] q.bit)) q.ring

-- the questions on one ring
abbrev pub questions_on : List Question → ℕ → List Question
questions_on questions n = filter (λ (q : Question). q.ring == n) questions
