-- Values that are looked up by name.
use Rattle.std.specs.Prelude.{ℕ, zero, suc, ◌+◌, List, [], ◌∷◌, ◌++◌, map, Option, None, Some, if◌then◌else◌}
use Rattle.std.specs.Borrow.{Bor}
use Rattle.std.specs.List.{position_from}
use Rattle.std.specs.Str.{bytes_eq}
use Rattle.indexmap.specs.IndexMap.{IndexMap, get_by}
use Rattle.cdc_base.specs.declared.bit.Bit.{Bit}
use Rattle.cdc_base.specs.declared.signal.Signal.{Signal}
use Rattle.cdc_base.specs.Bits.{bit_text}
use Rattle.clock_constraints.specs.declared.ClockPin.{ClockPin}
use Rattle.clock_constraints.specs.Refusals.{Text}

-- the pairs of some names in memory
abbrev pub pairs_of : {V : Type 0} → List (Bor Text × V) → List (Text × V)
pairs_of = map (λ p. (p.0.now, p.1))

-- the value under the name
abbrev pub found_in : {V S : Type 0} → IndexMap (Bor Text) V S → Text → Option V
found_in table name = get_by (λ k. bytes_eq name k.now) table

abbrev pub or_else : {V : Type 0} → Option V → Option V → Option V
or_else None other = other
or_else (Some v) other = Some v

-- the first value under the name
abbrev pub named : {V : Type 0} → List (Text × V) → Text → Option V
named [] name = None
named (p ∷ ps) name = if bytes_eq name p.0 then Some p.1 else named ps name

-- ---- signals, clocks and bits

-- the place of the first signal, and of the first clock, with this name
abbrev pub first_signal : List Signal → Text → Option ℕ
first_signal signals name = position_from (λ (s : Signal). bytes_eq name s.name) 0 signals

abbrev pub first_clock : List ClockPin → Text → Option ℕ
first_clock clocks name = position_from (λ (c : ClockPin). bytes_eq name c.name) 0 clocks

-- the printed names of a signal's low bits
abbrev pub names_of_bits : ℕ → Signal → ℕ → List (Text × Bit)
names_of_bits k s zero = []
names_of_bits k s (suc n) = names_of_bits k s n ++ (bit_text s n, record { sig = k; at = n }) ∷ []

-- those of all bits of the signals from number k on
abbrev pub bit_names : ℕ → List Signal → List (Text × Bit)
bit_names k [] = []
bit_names k (s ∷ ss) = names_of_bits k s s.width ++ bit_names (k + 1) ss
