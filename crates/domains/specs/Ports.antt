-- What ports are declared as, and the rules that they may break.
use Rattle.std.specs.Prelude.{ℕ, ◌+◌, List, [], ◌∷◌, ◌++◌, map, Bool, true, false, not, ◌||◌, ◌==◌, Option, None, Some, Result, Ok, option_map, find, if◌then◌else◌}
use Rattle.std.specs.Option.{option_map_or}
use Rattle.cdc_base.specs.declared.fault.Fault.{Fault}
use Rattle.cdc_base.specs.declared.signal.Signal.{Signal}
use Rattle.cdc_base.specs.declared.signal.SigKind.{SigKind}
use Rattle.cdc_base.specs.declared.signal.SigKind.TheVariants.{Input}
use Rattle.cdc_base.specs.declared.signal.ResetPin.{ResetPin}
use Rattle.clock_constraints.specs.declared.ClockPin.{ClockPin}
use Rattle.clock_constraints.specs.declared.InputPin.{InputPin}
use Rattle.clock_constraints.specs.declared.Constraints.{Constraints}
use Rattle.clock_constraints.specs.Refusals.{Text, broken, ◌>>=◌, required}
use Rattle.domains.specs.declared.port.Port.{Port}
use Rattle.domains.specs.declared.port.Role.{Role}
use Rattle.domains.specs.declared.port.Role.TheVariants.{Pin, Clocked, Reset, Static}

abbrev pub is_input : SigKind → Bool
is_input Input = true
is_input _ = false

-- what a port may be declared of: each signal's width, and whether it is an input of the top
abbrev pub signal_port : Signal → Port
signal_port s = record { width = s.width; is_input = is_input s.kind }

abbrev pub signal_ports : List Signal → List (Text × Port)
signal_ports = map (λ s. (s.name, signal_port s))

-- the clock pins, with their places from k on
abbrev pub clock_roles : ℕ → List ClockPin → List (Text × Role)
clock_roles k [] = []
clock_roles k (c ∷ cs) = (c.name, Pin k) ∷ clock_roles (k + 1) cs

abbrev pub input_roles : List InputPin → List (Text × Role)
input_roles = map (λ i. (i.name, Clocked i.clock))

abbrev pub reset_roles : List ResetPin → List (Text × Role)
reset_roles = map (λ r. (r.name, Reset))

abbrev pub static_roles : List Text → List (Text × Role)
static_roles = map (λ s. (s, Static))

-- all ports that are declared, in their order
abbrev pub roles : Constraints → List (Text × Role)
roles c = ((clock_roles 0 c.clocks ++ input_roles c.inputs) ++ reset_roles c.resets) ++ static_roles c.statics

abbrev pub is_reset : Role → Bool
is_reset Reset = true
is_reset _ = false

-- a reset may be any signal, and all other ports are inputs of the top
abbrev pub is_found : Option Port → Role → Bool
is_found None role = false
is_found (Some p) role = p.is_input || is_reset role

-- the first port whose signal isn't found
abbrev pub lost : (Text → Option Port) → List (Text × Role) → Option Fault
lost ports roles = option_map (λ r. broken 403 r.0) (find (λ r. not (is_found (ports r.0) r.1)) roles)

abbrev pub is_one : Option Port → Bool
is_one o = option_map_or (λ p. p.width == 1) o false

-- the first name of a port that hasn't one bit breaks the rule with this number
abbrev pub wide : ℕ → (Text → Option Port) → List Text → Option Fault
wide number ports names = option_map (broken number) (find (λ n. not (is_one (ports n))) names)

-- what a signal is declared as, which each input of the top has to be
abbrev pub signal_role : (Text → Option Role) → Signal → Result (Option Role) Fault
signal_role declared s = if is_input s.kind then (required 405 s.name (declared s.name) >>= (λ r. Ok (Some r))) else Ok None

abbrev pub signal_roles : (Text → Option Role) → List Signal → Result (List (Option Role)) Fault
signal_roles declared [] = Ok []
signal_roles declared (s ∷ ss) = do
  r ← signal_role declared s
  rs ← signal_roles declared ss
  Ok (r ∷ rs)
