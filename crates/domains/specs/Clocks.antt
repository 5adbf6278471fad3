-- The clocks of a net's signals, by what the top's inputs are declared as.
use Rattle.std.specs.Prelude.{◌≡◌, ℕ, ◌+◌, ◌<◌, List, [], ◌∷◌, All, Any, Bool, true, false, ◌==◌, Option, None, Some, find, length, slice_get, unwrap_or, if◌then◌else◌, ◌⊎◌}
use Rattle.std.specs.Option.{option_map_or}
use Rattle.cdc_base.specs.declared.bit.Bit.{Bit}
use Rattle.cdc_base.specs.declared.signal.Signal.{Signal}
use Rattle.cell_graph.specs.declared.cell.CellId.{CellId}
use Rattle.cell_graph.specs.declared.cell.Node.{Node}
use Rattle.cell_graph.specs.declared.net.Reg.{Reg}
use Rattle.cell_graph.specs.Cells.{Cells, cell_width}
use Rattle.cell_graph.specs.Feeds.{node}
use Rattle.cell_graph.specs.Tree.{Tree, Var}
use Rattle.cell_graph.specs.Origin.{TreeBit, origin}
use Rattle.cell_graph.specs.Unfolded.{tree_of}
use Rattle.clock_constraints.specs.Refusals.{Text}
use Rattle.domains.specs.declared.port.Role.{Role}
use Rattle.domains.specs.declared.port.Role.TheVariants.{Pin, Clocked, Reset, Static}

-- what each signal is declared as; only the top's inputs are
abbrev pub Roles : Type 0
Roles = List (Option Role)

abbrev pub role_at : Roles → ℕ → Option Role
role_at roles sig = unwrap_or (slice_get roles sig) None

-- the clock of which a signal is the pin
abbrev pub pin_of : Option Role → Option ℕ
pin_of None = None
pin_of (Some (Pin k)) = Some k
pin_of (Some (Clocked k)) = None
pin_of (Some Reset) = None
pin_of (Some Static) = None

-- the clock with which an input changes
abbrev pub input_clock : Option Role → Option ℕ
input_clock None = None
input_clock (Some (Pin k)) = None
input_clock (Some (Clocked k)) = Some k
input_clock (Some Reset) = None
input_clock (Some Static) = None

abbrev pub is_static : Option Role → Bool
is_static None = false
is_static (Some (Pin k)) = false
is_static (Some (Clocked k)) = false
is_static (Some Reset) = false
is_static (Some Static) = true

-- the static inputs from signal k on, ascending
abbrev pub static_signals : ℕ → Roles → List ℕ
static_signals k [] = []
static_signals k (r ∷ rs) = if is_static r then k ∷ static_signals (k + 1) rs else static_signals (k + 1) rs

-- the bits of the clock pins from signal k on, ascending
abbrev pub pin_bits : ℕ → Roles → List Bit
pin_bits k [] = []
pin_bits k (r ∷ rs) = option_map_or (λ clock. record { sig = k; at = 0 } ∷ pin_bits (k + 1) rs) (pin_of r) (pin_bits (k + 1) rs)

-- the clock of which a bit of a tree is the pin
abbrev pub pin_in : Roles → Tree → Option ℕ
pin_in roles (Var sig w) = pin_of (role_at roles sig)
pin_in roles t = None

abbrev pub pin_at : Roles → TreeBit → Option ℕ
pin_at roles None = None
pin_at roles (Some n) = pin_in roles n.0

-- the clock whose pin is the origin of a register's clock
abbrev pub register_clock : Cells → Roles → CellId → Option ℕ
register_clock g roles clock = pin_at roles (origin (tree_of g clock) 0)

-- the clock of a signal: a register's comes from its pin, an input's is declared, and no other has one
abbrev pub clock_of_signal : Cells → Roles → ℕ → Option Reg → Option ℕ
clock_of_signal g roles sig None = input_clock (role_at roles sig)
clock_of_signal g roles sig (Some r) = register_clock g roles r.clock

-- the register that is the signal with this number
abbrev pub register_of : List Reg → ℕ → Option Reg
register_of regs sig = find (λ r. r.sig == sig) regs

-- one clock, or none, for each signal
abbrev pub AreClocks : Cells → Roles → List Reg → List (Option ℕ) → Type 0
AreClocks g roles regs clocks = (length clocks ≡ length roles)
    × ((sig : ℕ) → sig < length roles → slice_get clocks sig ≡ Some (clock_of_signal g roles sig (register_of regs sig)))

-- what may be answered to whether a node reads a bit
abbrev pub Reads : Type 1
Reads = Cells → Node → Bit → Bool → Type 0

-- a next value reads one of the bits, and none of them
abbrev pub ReadsOne : Reads → Cells → List Bit → CellId → Type 0
ReadsOne reads g bits next = (i : ℕ) × (i < cell_width g next) × Any (λ b. reads g (node next i) b true) bits

abbrev pub ReadsNone : Reads → Cells → List Bit → CellId → Type 0
ReadsNone reads g bits next = (i : ℕ) → i < cell_width g next → All (λ b. reads g (node next i) b false) bits

-- the register's clock comes from the pin of this clock, and its next value reads no pin
abbrev pub HasClock : Reads → Cells → Roles → Reg → ℕ → Type 0
HasClock reads g roles r k = (register_clock g roles r.clock ≡ Some k) × ReadsNone reads g (pin_bits 0 roles) r.next

-- the register's clock comes from no pin, or its next value reads one
abbrev pub LacksClock : Reads → Cells → Roles → Reg → Type 0
LacksClock reads g roles r = (register_clock g roles r.clock ≡ None) ⊎ ReadsOne reads g (pin_bits 0 roles) r.next

-- each register has a clock
abbrev pub AreClocked : Reads → Cells → Roles → List Reg → Type 0
AreClocked reads g roles regs = All (λ r. (k : ℕ) × HasClock reads g roles r k) regs

-- the name of a signal
abbrev pub signal_name : List Signal → ℕ → Text
signal_name signals sig = option_map_or (λ (s : Signal). s.name) (slice_get signals sig) []
