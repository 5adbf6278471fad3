-- The domains of a net under constraints, or the first rule that the two break.
use Rattle.std.specs.Prelude.{◌≡◌, ℕ, List, [], map, take, slice_get, Option, None, Some, Result, Ok, Err, ⊤, ◌⊎◌, option_and_then, unwrap_or}
use Rattle.std.specs.List.{AllZip}
use Rattle.cdc_base.specs.declared.bit.Bit.{Bit}
use Rattle.cdc_base.specs.declared.fault.Fault.{Fault}
use Rattle.cdc_base.specs.declared.fault.Stop.{Stop}
use Rattle.cdc_base.specs.declared.fault.Stop.TheVariants.{Refused, Memory}
use Rattle.cdc_base.specs.declared.signal.Signal.{Signal}
use Rattle.cell_graph.specs.declared.net.Net.{Net}
use Rattle.cell_graph.specs.declared.net.Reg.{Reg}
use Rattle.cell_graph.specs.Cells.{Cells}
use Rattle.clock_constraints.specs.declared.ClockPin.{ClockPin}
use Rattle.clock_constraints.specs.declared.Constraints.{Constraints}
use Rattle.clock_constraints.specs.Refusals.{Text, broken, unless}
use Rattle.domains.specs.declared.Domains.{Domains}
use Rattle.domains.specs.declared.port.Port.{Port}
use Rattle.domains.specs.declared.port.Role.{Role}
use Rattle.domains.specs.Tables.{named}
use Rattle.domains.specs.Ports.{signal_ports, roles, lost, wide, signal_roles}
use Rattle.domains.specs.Groups.{mentions, IsInGroup}
use Rattle.domains.specs.Clocks.{Roles, Reads, static_signals, AreClocks, AreClocked, LacksClock, signal_name}

-- the first rule that is broken
abbrev pub or_then : Option Fault → Option Fault → Option Fault
or_then None later = later
or_then (Some f) later = Some f

-- the first rule that a port breaks: a reset's is a signal and any other's an input of the top, a clock's has one bit, a
-- reset's has one bit
abbrev pub broken_port : (Text → Option Port) → List (Text × Role) → Constraints → Option Fault
broken_port ports declared c =
    or_then (lost ports declared) (or_then (wide 407 ports (map (λ k. k.name) c.clocks)) (wide 408 ports (map (λ r. r.name) c.resets)))

-- what the signals are declared as, or the first rule that a port breaks, or else that each input of the top is declared
abbrev pub port_roles : List Signal → Constraints → Result Roles Fault
port_roles signals c = unless (broken_port (named (signal_ports signals)) (roles c) c) (signal_roles (named (roles c)) signals)

-- the register is the first without a clock
abbrev pub IsFirstUnclocked : Reads → Cells → Roles → List Reg → Reg → Type 0
IsFirstUnclocked reads g roles regs r = (k : ℕ) × (slice_get regs k ≡ Some r) × AreClocked reads g roles (take k regs) × LacksClock reads g roles r

-- the domains: the clocks of the constraints, their groups in the order in which the clocks first name them, the clock of
-- each register and clocked input, and the static inputs
pub record AreDomains (reads : Reads) (net : Net) (c : Constraints) (d : Domains) : Type 0 where
  pub roles : Roles
  pub ports : port_roles net.graph.signals c ≡ Ok roles
  pub registers : AreClocked reads net.graph roles net.regs
  pub clocks : d.clocks ≡ c.clocks
  pub groups : d.groups ≡ mentions [] (map (λ (k : ClockPin). k.group) c.clocks)
  pub group_by_clock : AllZip (IsInGroup d.groups) c.clocks d.group_by_clock
  pub clock_by_sig : AreClocks net.graph roles net.regs d.clock_by_sig
  pub statics : d.statics ≡ static_signals 0 roles

-- a rule of a port is broken, or else a register is the first without a clock, and the fault names it
abbrev pub IsBroken : Reads → Net → Constraints → Fault → Type 0
IsBroken reads net c f = (port_roles net.graph.signals c ≡ Err f)
    ⊎ ((roles : Roles) × (r : Reg) × (port_roles net.graph.signals c ≡ Ok roles) × IsFirstUnclocked reads net.graph roles net.regs r × (f ≡ broken 406 (signal_name net.graph.signals r.sig)))

-- the refusal has such a cause, unless memory ran out
abbrev pub Refuses : (Fault → Type 0) → Stop → Type 0
Refuses cause (Refused f) = cause f
Refuses cause Memory = ⊤

-- the clock of a bit, which is that of its signal, and the clock's group
abbrev pub clock_of : Domains → Bit → Option ℕ
clock_of d b = unwrap_or (slice_get d.clock_by_sig b.sig) None

abbrev pub group_of : Domains → Bit → Option ℕ
group_of d b = option_and_then (slice_get d.group_by_clock) (clock_of d b)
