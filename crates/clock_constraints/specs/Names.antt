-- Names that may stand once, and the clocks that inputs name.
use Rattle.std.specs.Prelude.{ℕ, List, [], ◌∷◌, ◌++◌, Option, None, Some, Result, Ok, option_map, position, if◌then◌else◌}
use Rattle.std.specs.List.{list_any}
use Rattle.std.specs.Str.{bytes_eq}
use Rattle.cdc_base.specs.declared.fault.Fault.{Fault}
use Rattle.clock_constraints.specs.declared.ClockPin.{ClockPin}
use Rattle.clock_constraints.specs.declared.InputPin.{InputPin}
use Rattle.clock_constraints.specs.declared.entry.InputEntry.{InputEntry}
use Rattle.clock_constraints.specs.Refusals.{Text, broken, ◌>>=◌, required}

-- the first name that stands among those before it
abbrev pub first_again : List Text → List Text → Option Text
first_again before [] = None
first_again before (n ∷ ns) = if list_any (bytes_eq n) before then Some n else first_again (before ++ n ∷ []) ns

-- a name that stands twice breaks the rule with this number
abbrev pub repeated : ℕ → List Text → Option Fault
repeated number names = option_map (broken number) (first_again [] names)

-- the place of the clock with this name
abbrev pub clock_place : List ClockPin → Text → Option ℕ
clock_place clocks name = position (λ c. bytes_eq name c.name) clocks

-- an input with the place of its clock
abbrev pub input_pin : List ClockPin → InputEntry → Result InputPin Fault
input_pin clocks entry = do
  clock ← required 409 entry.clock (clock_place clocks entry.clock)
  Ok (record { name = entry.name; clock = clock })

abbrev pub input_pins : List ClockPin → List InputEntry → Result (List InputPin) Fault
input_pins clocks [] = Ok []
input_pins clocks (e ∷ es) = do
  pin ← input_pin clocks e
  pins ← input_pins clocks es
  Ok (pin ∷ pins)
