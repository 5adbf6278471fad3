-- The clocks of a flat design's signals under constraints, by its trees.
use Rattle.std.specs.Prelude.{◌≡◌, ℕ, ◌<◌, Bool, false, not, Option, None, Some, [], map, All, length, slice_get, Ok, true}
use Rattle.std.specs.List.{AllZip}
use Rattle.std.specs.Option.{option_map_or}
use Rattle.cdc_base.specs.declared.signal.ResetPin.{ResetPin}
use Rattle.cdc_base.specs.declared.signal.SigKind.{SigKind}
use Rattle.cdc_base.specs.declared.signal.SigKind.TheVariants.{Input, Register, Wire}
use Rattle.cdc_base.specs.declared.bit.Bit.{Bit}
use Rattle.cell_graph.specs.Cofactor.{reads}
use Rattle.cell_graph.specs.Origin.{origin}
use Rattle.clock_constraints.specs.declared.ClockPin.{ClockPin}
use Rattle.clock_constraints.specs.declared.Constraints.{Constraints}
use Rattle.clock_constraints.specs.Refusals.{Text}
use Rattle.domains.specs.declared.Domains.{Domains}
use Rattle.domains.specs.declared.port.Role.{Role}
use Rattle.domains.specs.declared.port.Role.TheVariants.{Pin, Clocked, Reset, Static}
use Rattle.domains.specs.Assignment.{port_roles}
use Rattle.domains.specs.Clocks.{Roles, input_clock, pin_at, pin_bits, role_at, signal_name, static_signals}
use Rattle.domains.specs.Groups.{IsInGroup, mentions}
use Rattle.domains.specs.Tables.{named}
use Rattle.flat_meaning.specs.Design.{Flat, kind_in, size_in}
use Rattle.flat_meaning.specs.Design as flat
use Rattle.flat_meaning.specs.SignalTrees.{clock_tree_of, next_tree_of}
use Rattle.flat_meaning.specs.Trees.{Selects}

-- ---- pins

-- the level at which a reset doesn't act, by the constraints
abbrev pub inactive_level : Constraints → Text → Bool
inactive_level c name = option_map_or not (named (map (λ (r : ResetPin). (r.name, r.high)) c.resets) name) false

-- what a top input is, by what it is declared as
abbrev pub pin_for : Option Role → (inactive : Bool) → flat.Pin
pin_for None inactive = flat.StatePin
pin_for (Some (Pin k)) inactive = flat.ClockPin
pin_for (Some (Clocked k)) inactive = flat.StatePin
pin_for (Some Reset) inactive = flat.ResetPin inactive
pin_for (Some Static) inactive = flat.StatePin

abbrev pub pins_of : Flat → Constraints → Roles → ℕ → flat.Pin
pins_of f c roles sig = pin_for (role_at roles sig) (inactive_level c (signal_name f.signals sig))

-- a clock pin or a reset stays at its level
abbrev pub stays : Option Role → Bool
stays None = false
stays (Some (Pin k)) = true
stays (Some (Clocked k)) = false
stays (Some Reset) = true
stays (Some Static) = false

-- the signal has state bits: it is a register, or an input that stays at no level
abbrev pub has_state : SigKind → Option Role → Bool
has_state Register role = true
has_state Input role = not (stays role)
has_state Wire role = false

-- next values read state bits alone
abbrev pub ReadsStateAlone : Flat → Selects → Roles → Type 0
ReadsStateAlone f sel roles = (sig i : ℕ) (b : Bit) → kind_in f.signals sig ≡ Register → i < size_in f sig → reads [] (next_tree_of f sel sig) i b ≡ true
    → has_state (kind_in f.signals b.sig) (role_at roles b.sig) ≡ true

-- ---- clocks

-- the clock of a signal: a register's comes from the pin that is the origin of its process's clock, an input's is declared, and no other has one
abbrev pub clock_by_kind : Flat → Selects → Roles → ℕ → SigKind → Option ℕ
clock_by_kind f sel roles sig Register = pin_at roles (origin (clock_tree_of f sel sig) 0)
clock_by_kind f sel roles sig Input = input_clock (role_at roles sig)
clock_by_kind f sel roles sig Wire = None

abbrev pub clock_of_signal : Flat → Selects → Roles → ℕ → Option ℕ
clock_of_signal f sel roles sig = clock_by_kind f sel roles sig (kind_in f.signals sig)

-- no next value reads the bit of a clock pin
abbrev pub ReadsNoPin : Flat → Selects → Roles → ℕ → Type 0
ReadsNoPin f sel roles sig = (i : ℕ) → i < size_in f sig → All (λ b. reads [] (next_tree_of f sel sig) i b ≡ false) (pin_bits 0 roles)

-- a register has a clock, and its next value reads no pin of one
abbrev pub IsClocked : Flat → Selects → Roles → ℕ → Type 0
IsClocked f sel roles sig = ((k : ℕ) × (clock_of_signal f sel roles sig ≡ Some k)) × ReadsNoPin f sel roles sig

-- one clock, or none, for each signal
abbrev pub AreClocks : Flat → Selects → Roles → Domains → Type 0
AreClocks f sel roles d = (length d.clock_by_sig ≡ length f.signals)
    × ((sig : ℕ) → sig < length f.signals → slice_get d.clock_by_sig sig ≡ Some (clock_of_signal f sel roles sig))

-- the domains: the clocks of the constraints, their groups in the order in which the clocks first name them, the clock of
-- each register and clocked input, and the static inputs
pub record AreDomains (f : Flat) (sel : Selects) (c : Constraints) (roles : Roles) (d : Domains) : Type 0 where
  pub ports : port_roles f.signals c ≡ Ok roles
  pub registers : (sig : ℕ) → kind_in f.signals sig ≡ Register → IsClocked f sel roles sig
  pub clocks : d.clocks ≡ c.clocks
  pub groups : d.groups ≡ mentions [] (map (λ (k : ClockPin). k.group) c.clocks)
  pub group_by_clock : AllZip (IsInGroup d.groups) c.clocks d.group_by_clock
  pub clock_by_sig : AreClocks f sel roles d
  pub statics : d.statics ≡ static_signals 0 roles
