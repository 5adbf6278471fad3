-- What an SDC text says: its constraints, or the first rule that it breaks.
use denote.Ref.{Bor}
use Rattle.std.specs.Prelude.{◌≡◌, ⊤, ℕ, List, [], ◌∷◌, ◌++◌, position, codes, Option, None, Some, Result, Ok, Err, unwrap_or}
use Rattle.std.specs.Str.{bytes_eq}
use Rattle.cdc_base.specs.declared.fault.Fault.{Fault}
use Rattle.cdc_base.specs.declared.signal.ResetPin.{ResetPin}
use Rattle.cdc_base.specs.declared.fault.Stop.{Stop}
use Rattle.cdc_base.specs.declared.fault.Stop.TheVariants.{Refused, Memory}
use Rattle.clock_constraints.specs.declared.ClockPin.{ClockPin}
use Rattle.clock_constraints.specs.declared.InputPin.{InputPin}
use Rattle.clock_constraints.specs.declared.Constraints.{Constraints}
use Rattle.clock_constraints.specs.Refusals.{Text, broken, ◌>>=◌, unless}
use Rattle.sdc_subset.specs.declared.form.Command.{Command}
use Rattle.sdc_subset.specs.declared.form.Command.TheVariants as command
use Rattle.sdc_subset.specs.declared.pins.Meaning.{Meaning}
use Rattle.sdc_subset.specs.declared.pins.Meaning.TheVariants.{Clock, Input, Reset}
use Rattle.sdc_subset.specs.declared.pins.Pin.{Pin}
use Rattle.sdc_subset.specs.declared.groups.Member.{Member}
use Rattle.sdc_subset.specs.Commands.{commands_of}
use Rattle.sdc_subset.specs.Readings.{readings}
use Rattle.sdc_subset.specs.Pins.{mentions, clock_names, unknown_clock, pins_from}
use Rattle.sdc_subset.specs.Groups.{wrong_groups, lists_or_one, members, group_in}

-- the top that commands name behind this one; it may be named once
abbrev pub only_design : Option Text → List Command → Result (Option Text) Fault
only_design found [] = Ok found
only_design None (command.Design name ∷ cs) = only_design (Some name) cs
only_design (Some top) (command.Design name ∷ cs) = Err (broken 413 (codes "current_design"))
only_design found (c ∷ cs) = only_design found cs

-- the groups that commands state behind these, which have two lists or more; they may be stated once
abbrev pub only_groups : List (List Text) → List Command → Result (List (List Text)) Fault
only_groups found [] = Ok found
only_groups [] (command.Groups lists ∷ cs) = only_groups lists cs
only_groups (l ∷ ls) (command.Groups lists ∷ cs) = Err (broken 413 (codes "set_clock_groups"))
only_groups found (c ∷ cs) = only_groups found cs

-- the clock pins, whose settling numbers are 1
abbrev pub clock_pin : List Member → Text → Meaning → List ClockPin
clock_pin ms port (Clock name) = record { name = port; group = group_in ms name; settle = 1 } ∷ []
clock_pin ms port m = []

abbrev pub clock_pins : List Member → List Pin → List ClockPin
clock_pins ms [] = []
clock_pins ms (p ∷ ps) = clock_pin ms p.port p.meaning ++ clock_pins ms ps

-- the inputs, with the places of their clocks
abbrev pub place_of : List Text → Text → ℕ
place_of names clock = unwrap_or (position (bytes_eq clock) names) 0

abbrev pub input_pin : List Text → Text → Meaning → List InputPin
input_pin names port (Input clock) = record { name = port; clock = place_of names clock } ∷ []
input_pin names port m = []

abbrev pub input_pins : List Text → List Pin → List InputPin
input_pins names [] = []
input_pins names (p ∷ ps) = input_pin names p.port p.meaning ++ input_pins names ps

abbrev pub reset_pin : Text → Meaning → List ResetPin
reset_pin port (Reset high) = record { name = port; high = high } ∷ []
reset_pin port m = []

abbrev pub reset_pins : List Pin → List ResetPin
reset_pins [] = []
reset_pins (p ∷ ps) = reset_pin p.port p.meaning ++ reset_pins ps

-- the constraints of pins; SDC has no static inputs and no waivers
abbrev pub made : Text → List Text → List (List Text) → List Pin → Constraints
made top names lists ps = record {
  top = top;
  clocks = clock_pins (members (lists_or_one names lists)) ps;
  inputs = input_pins names ps;
  resets = reset_pins ps;
  statics = [];
  waivers = [];
}

-- what mentions say of ports: each clock is in one group, each input's clock is known, and each port has one meaning
abbrev pub of_mentions : Text → List (List Text) → List Pin → Result Constraints Fault
of_mentions top lists ps =
    unless (wrong_groups (clock_names ps) lists) (unless (unknown_clock (clock_names ps) ps)
    (pins_from [] ps >>= (λ pins. Ok (made top (clock_names ps) lists pins))))

-- what commands say; `last` is the top where none is named
abbrev pub of_commands : Text → List Command → Result Constraints Fault
of_commands last cs = do
  design ← only_design None cs
  lists ← only_groups [] cs
  of_mentions (unwrap_or design last) lists (mentions cs)

-- what a text says
abbrev pub meaning : List ℕ → Text → Result Constraints Fault
meaning text last = readings (commands_of text) >>= of_commands last

-- the answer is the reading, unless memory ran out, where the answer borrows
abbrev pub Found : Result (Bor (List (List Text))) Stop → Result (List (List Text)) Fault → Type 0
Found (Ok x) r = r ≡ Ok x.now
Found (Err (Refused f)) r = r ≡ Err f
Found (Err Memory) r = ⊤
