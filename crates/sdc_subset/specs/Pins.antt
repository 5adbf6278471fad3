-- What ports are, in the order of the text.
use Rattle.std.specs.Prelude.{◌≡◌, ⊤, Bool, false, not, List, [], ◌∷◌, ◌++◌, map, Option, None, Some, Result, Ok, Err, if◌then◌else◌}
use Rattle.std.specs.List.{list_any}
use Rattle.std.specs.Str.{bytes_eq}
use Rattle.cdc_base.specs.declared.fault.Fault.{Fault}
use Rattle.cdc_base.specs.declared.fault.Stop.{Stop}
use Rattle.cdc_base.specs.declared.fault.Stop.TheVariants.{Refused, Memory}
use Rattle.clock_constraints.specs.Refusals.{Text, broken, ◌>>=◌}
use Rattle.sdc_subset.specs.declared.form.Command.{Command}
use Rattle.sdc_subset.specs.declared.form.Command.TheVariants as command
use Rattle.sdc_subset.specs.declared.pins.Meaning.{Meaning}
use Rattle.sdc_subset.specs.declared.pins.Meaning.TheVariants.{Clock, Input, Reset}
use Rattle.sdc_subset.specs.declared.pins.Pin.{Pin}

-- the ports that a command names, and what it makes them
abbrev pub pins_in : Command → List Pin
pins_in (command.Clock port name) = record { port = port; meaning = Clock name } ∷ []
pins_in (command.Delay clock ports) = map (λ port. record { port = port; meaning = Input clock }) ports
pins_in (command.Level high ports) = map (λ port. record { port = port; meaning = Reset high }) ports
pins_in c = []

abbrev pub mentions : List Command → List Pin
mentions [] = []
mentions (c ∷ cs) = pins_in c ++ mentions cs

-- the clock names
abbrev pub named_by : Meaning → List Text
named_by (Clock name) = name ∷ []
named_by m = []

abbrev pub clock_names : List Pin → List Text
clock_names [] = []
clock_names (p ∷ ps) = named_by p.meaning ++ clock_names ps

-- the clock of an input that isn't among the names
abbrev pub unknown_to : List Text → Meaning → Option Fault
unknown_to names (Input clock) = if list_any (bytes_eq clock) names then None else Some (broken 409 clock)
unknown_to names m = None

-- the first
abbrev pub or_else : Option Fault → Option Fault → Option Fault
or_else None other = other
or_else (Some f) other = Some f

abbrev pub unknown_clock : List Text → List Pin → Option Fault
unknown_clock names [] = None
unknown_clock names (p ∷ ps) = or_else (unknown_to names p.meaning) (unknown_clock names ps)

-- whether what is said of a port is said again; a clock pin may stand once
abbrev pub same_again : Meaning → Meaning → Bool
same_again (Input a) (Input b) = bytes_eq a b
same_again (Reset a) (Reset b) = if a then b else not b
same_again m n = false

-- what was said of a port
abbrev pub meaning_of : Text → List Pin → Option Meaning
meaning_of port [] = None
meaning_of port (p ∷ ps) = if bytes_eq port p.port then Some p.meaning else meaning_of port ps

-- a clock name that was given before
abbrev pub given_twice : List Pin → Meaning → Option Fault
given_twice before (Clock name) = if list_any (bytes_eq name) (clock_names before) then Some (broken 404 name) else None
given_twice before m = None

-- one more pin behind those before it, unless the same was said; a port has one meaning
abbrev pub add_to : List Pin → Pin → Option Meaning → Result (List Pin) Fault
add_to before p None = Ok (before ++ p ∷ [])
add_to before p (Some m) = if same_again m p.meaning then Ok before else Err (broken 404 p.port)

abbrev pub add_unless : Option Fault → List Pin → Pin → Result (List Pin) Fault
add_unless None before p = add_to before p (meaning_of p.port before)
add_unless (Some f) before p = Err f

abbrev pub add_pin : List Pin → Pin → Result (List Pin) Fault
add_pin before p = add_unless (given_twice before p.meaning) before p

-- the pins of mentions, behind those before them
abbrev pub pins_from : List Pin → List Pin → Result (List Pin) Fault
pins_from before [] = Ok before
pins_from before (p ∷ ps) = add_pin before p >>= (λ more. pins_from more ps)

-- the change is the reading, unless memory ran out
abbrev pub Changes : {A : Type 0} → Result (Unit {0}) Stop → Result A Fault → A → Type 0
Changes (Ok u) r new = r ≡ Ok new
Changes (Err (Refused f)) r new = r ≡ Err f
Changes (Err Memory) r new = ⊤
