-- The signals, bits and clocks that a record names.
use Rattle.std.specs.Prelude.{◌≡◌, ℕ, zero, suc, ◌+◌, ◌≤◌, ◌^◌, ◌==◌, nat_le, List, [], ◌∷◌, length, Bool, true, false, Option, None, Some, Result, Ok, Err, slice_get, option_map, bit_and, bit_xor, if◌then◌else◌}
use Rattle.std.specs.Option.{option_map_or}
use Rattle.std.specs.Str.{bytes_eq}
use Rattle.std.specs.List.{position_from}
use Rattle.std.specs.List.Sorted.{IsStrictlyIncreasing}
use Rattle.cdc_base.specs.declared.bit.Bit.{Bit}
use Rattle.cdc_base.specs.declared.fault.Fault.{Fault}
use Rattle.cdc_base.specs.declared.signal.Signal.{Signal}
use Rattle.cdc_base.specs.Bits.{bit_text}
use Rattle.cell_graph.specs.declared.net.Net.{Net}
use Rattle.clock_constraints.specs.declared.ClockPin.{ClockPin}
use Rattle.clock_constraints.specs.Refusals.{Text, broken, ◌>>=◌, required}
use Rattle.domains.specs.declared.Domains.{Domains}
use Rattle.domains.specs.Nets.{is_register}
use Rattle.domains.specs.Tables.{or_else, first_signal, first_clock}
use Rattle.cdc_model.specs.declared.record.Given.{Given}
use Rattle.cdc_model.specs.declared.record.Race.{Race}
use Rattle.cdc_model.specs.declared.record.RecordStep.{RecordStep}
use Rattle.settling_sim.specs.State.{has_kind, is_clocked_input, is_state_signal}
use Rattle.run_file.specs.declared.document.Entry.{Entry}
use Rattle.run_file.specs.declared.document.RaceEntry.{RaceEntry}
use Rattle.run_file.specs.declared.document.StepEntry.{StepEntry}

-- the first of a signal's low bits with this printed name
abbrev pub offset_named : Signal → Text → ℕ → Option ℕ
offset_named s t zero = None
offset_named s t (suc n) = or_else (offset_named s t n) (if bytes_eq t (bit_text s n) then Some n else None)

-- the first bit of the signals from number k on with this printed name
abbrev pub bit_from : ℕ → List Signal → Text → Option Bit
bit_from k [] t = None
bit_from k (s ∷ ss) t = or_else (option_map (λ at. record { sig = k; at = at }) (offset_named s t s.width)) (bit_from (k + 1) ss t)

abbrev pub bit_named : List Signal → Text → Option Bit
bit_named signals t = bit_from 0 signals t

-- a net and domains of which records can speak: signals and clocks have numbers, and static inputs ascend
pub record CanRead (net : Net) (domains : Domains) : Type 0 where
  pub signals : length net.graph.signals ≤ 2 ^ 32
  pub clocks : length domains.clocks ≤ 2 ^ 32
  pub statics : IsStrictlyIncreasing domains.statics

-- what passes a test
abbrev pub passing : {A : Type 0} → (A → Bool) → Option A → Option A
passing test None = None
passing test (Some x) = if test x then Some x else None

-- what a name stands for, or that it is unknown
abbrev pub known : {A : Type 0} → Text → Option A → Result A Fault
known name o = required 503 name o

-- the value needs more bits than the signal has
abbrev pub is_wider : List Signal → ℕ → ℕ → Bool
is_wider signals sig value = option_map_or (λ (s : Signal). nat_le (2 ^ s.width) value) (slice_get signals sig) false

abbrev pub given : List Signal → Entry → ℕ → Result Given Fault
given signals e sig = if is_wider signals sig e.value then Err (broken 508 e.name) else Ok (record { sig = sig; value = e.value })

-- the value has the signal's known start bits
abbrev pub has_start : List Signal → Given → Bool
has_start signals g = option_map_or (λ (s : Signal). bit_and (bit_xor g.value s.start) s.known == 0) (slice_get signals g.sig) true

abbrev pub starting : List Signal → Text → Given → Result Given Fault
starting signals name g = if has_start signals g then Ok g else Err (broken 509 name)

-- a start value, of a signal that holds state
abbrev pub start_value : Net → Domains → Entry → Result Given Fault
start_value net domains e = do
  sig ← known e.name (passing (is_state_signal net domains) (first_signal net.graph.signals e.name))
  g ← given net.graph.signals e sig
  starting net.graph.signals e.name g

-- a value of a clocked input
abbrev pub input_value : Net → Domains → Entry → Result Given Fault
input_value net domains e = do
  sig ← known e.name (passing (is_clocked_input net domains) (first_signal net.graph.signals e.name))
  given net.graph.signals e sig

-- each item of a list in turn
abbrev pub each : {A B : Type 0} → (A → Result B Fault) → List A → Result (List B) Fault
each one [] = Ok []
each one (x ∷ xs) = do
  y ← one x
  ys ← each one xs
  Ok (y ∷ ys)

abbrev pub edge : List ClockPin → Text → Result ℕ Fault
edge clocks name = known name (first_clock clocks name)

-- a bit of a register, and of any signal that holds state
abbrev pub register_bit : Net → Text → Result Bit Fault
register_bit net name = known name (passing (λ (b : Bit). has_kind net is_register b.sig) (bit_named net.graph.signals name))

abbrev pub state_bit : Net → Domains → Text → Result Bit Fault
state_bit net domains name = known name (passing (λ (b : Bit). is_state_signal net domains b.sig) (bit_named net.graph.signals name))

abbrev pub other_bits : Net → Domains → Option (List Text) → Result (Option (List Bit)) Fault
other_bits net domains None = Ok None
other_bits net domains (Some names) = do
  bits ← each (state_bit net domains) names
  Ok (Some bits)

abbrev pub race : Net → Domains → RaceEntry → Result Race Fault
race net domains e = do
  bit ← register_bit net e.bit
  flip ← each (state_bit net domains) e.flip
  other ← other_bits net domains e.other
  Ok (record { bit = bit; flip = flip; other = other })

abbrev pub step : Net → Domains → StepEntry → Result RecordStep Fault
step net domains e = do
  edges ← each (edge domains.clocks) e.edges
  inputs ← each (input_value net domains) e.inputs
  races ← each (race net domains) e.races
  Ok (record { edges = edges; inputs = inputs; races = races })
