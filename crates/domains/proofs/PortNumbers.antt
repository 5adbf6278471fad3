-- Which rules the ports of the top may break.
use Rattle.std.proofs.Common.{◌≡◌, subst, refl, ℕ, List, [], ◌∷◌, Bool, true, false, Option, None, Some, Result, Ok, Err, map, find, not}
use Rattle.std.specs.Prelude.{IfErr, if◌then◌else◌, option_map}
use Rattle.cdc_base.specs.declared.fault.Fault.{Fault}
use Rattle.cdc_base.specs.declared.fault.Stop.{Stop}
use Rattle.cdc_base.specs.declared.fault.Stop.TheVariants.{Refused, Memory}
use Rattle.cdc_base.specs.declared.signal.Signal.{Signal}
use Rattle.clock_constraints.specs.declared.Constraints.{Constraints}
use Rattle.clock_constraints.specs.Refusals.{Text, broken, unless, required, Gives, ◌>>=◌}
use Rattle.refusals.specs.Numbers.{is_listed, HasNumberIn, assignment_numbers}
use Rattle.domains.specs.declared.port.Port.{Port}
use Rattle.domains.specs.declared.port.Role.{Role}
use Rattle.domains.specs.Assignment.{or_then, broken_port, port_roles}
use Rattle.domains.specs.Ports.{signal_ports, roles, is_found, lost, wide, is_one, is_input, signal_role, signal_roles}
use Rattle.domains.specs.Tables.{named}

abbrev IsListed : Fault → Type 0
IsListed f = is_listed assignment_numbers f.number ≡ true

-- the rule that is broken, if any, is listed
abbrev MayBreak : Option Fault → Type 0
MayBreak None = Unit {0}
MayBreak (Some f) = IsListed f

abbrev Reads : {A : Type 0} → Result A Fault → Type 0
Reads (Ok x) = Unit {0}
Reads (Err f) = IsListed f

of_found : {A : Type 0} (number : ℕ) (name : A → Text) → is_listed assignment_numbers number ≡ true → (o : Option A)
    → MayBreak (option_map (λ x. broken number (name x)) o)
of_found number name h None = tt
of_found number name h (Some x) = h

either_listed : (a b : Option Fault) → MayBreak a → MayBreak b → MayBreak (or_then a b)
either_listed None b h k = k
either_listed (Some f) b h k = h

unless_listed : {A : Type 0} (o : Option Fault) (r : Result A Fault) → MayBreak o → Reads r → Reads (unless o r)
unless_listed None r h k = k
unless_listed (Some f) r h k = h

bind_listed : {A B : Type 0} (r : Result A Fault) (next : A → Result B Fault) → Reads r → ((x : A) → Reads (next x)) → Reads (r >>= next)
bind_listed (Ok x) next h k = k x
bind_listed (Err f) next h k = h

role_listed : (b : Bool) (n : Text) (o : Option Role) → Reads (if b then (required 405 n o >>= (λ r. Ok (Some r))) else Ok None)
role_listed true n None = refl
role_listed true n (Some r) = tt
role_listed false n o = tt

signal_roles_listed : (declared : Text → Option Role) (ss : List Signal) → Reads (signal_roles declared ss)
signal_roles_listed declared [] = tt
signal_roles_listed declared (s ∷ ss) = bind_listed (signal_role declared s) _ (role_listed (is_input s.kind) s.name (declared s.name))
    (λ r. bind_listed (signal_roles declared ss) _ (signal_roles_listed declared ss) (λ rs. tt))

port_listed : (ports : Text → Option Port) (declared : List (Text × Role)) (c : Constraints) → MayBreak (broken_port ports declared c)
port_listed ports declared c =
    either_listed (lost ports declared) _ (of_found 403 (λ (r : Text × Role). r.0) refl (find (λ r. not (is_found (ports r.0) r.1)) declared))
    (either_listed (wide 407 ports (map (λ k. k.name) c.clocks)) _
    (of_found 407 (λ (n : Text). n) refl (find (λ n. not (is_one (ports n))) (map (λ k. k.name) c.clocks)))
    (of_found 408 (λ (n : Text). n) refl (find (λ n. not (is_one (ports n))) (map (λ r. r.name) c.resets))))

pub port_roles-listed : (signals : List Signal) (c : Constraints) → Reads (port_roles signals c)
port_roles-listed signals c = unless_listed (broken_port (named (signal_ports signals)) (roles c) c) (signal_roles (named (roles c)) signals)
    (port_listed (named (signal_ports signals)) (roles c) c) (signal_roles_listed (named (roles c)) signals)

pub gives-numbered : {A : Type 0} (r : Result A Stop) (spec : Result A Fault) → Gives r spec → Reads spec → IfErr r (HasNumberIn assignment_numbers)
gives-numbered (Ok x) spec g l = tt
gives-numbered (Err (Refused f)) spec g l = subst Reads g l
gives-numbered (Err Memory) spec g l = tt
