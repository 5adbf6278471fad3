-- Domains that fit a net, for the layers above to rest on.
use Rattle.std.specs.Prelude.{◌≡◌, ◌≢◌, ℕ, ◌<◌, ◌≤◌, length, All, AllPairs, Any, Contains, false, None, Some, slice_get, ◌⊎◌}
use Rattle.std.specs.List.Sorted.{IsStrictlyIncreasing}
use Rattle.cdc_base.specs.declared.signal.Signal.{Signal}
use Rattle.cdc_base.specs.declared.signal.SigKind.{SigKind}
use Rattle.cdc_base.specs.declared.signal.SigKind.TheVariants.{Input, Register, Wire}
use Rattle.cell_graph.specs.declared.net.Net.{Net}
use Rattle.cell_graph.specs.declared.net.Reg.{Reg}
use Rattle.cell_graph.specs.Cells.{cell_width}
use Rattle.cell_graph.specs.Feeds.{node}
use Rattle.domains.specs.Clocks.{Reads}
use Rattle.clock_constraints.specs.declared.ClockPin.{ClockPin}
use Rattle.domains.specs.declared.Domains.{Domains}

-- the signal has a clock of the list, and none
abbrev pub HasClockAt : Domains → ℕ → Type 0
HasClockAt d sig = (k : ℕ) × (slice_get d.clock_by_sig sig ≡ Some (Some k)) × (k < length d.clocks)

abbrev pub HasNoClockAt : Domains → ℕ → Type 0
HasNoClockAt d sig = slice_get d.clock_by_sig sig ≡ Some None

-- a register has a clock, an input of the top may have one, and no other signal has
abbrev pub IsClockedAs : Domains → ℕ → SigKind → Type 0
IsClockedAs d sig Register = HasClockAt d sig
IsClockedAs d sig Input = HasClockAt d sig ⊎ HasNoClockAt d sig
IsClockedAs d sig Wire = HasNoClockAt d sig

-- the signal is an input of the top, and has no clock
abbrev pub IsStill : Net → Domains → ℕ → Type 0
IsStill net d sig = (s : Signal) × (slice_get net.graph.signals sig ≡ Some s) × (s.kind ≡ Input) × HasNoClockAt d sig

-- one clock or none for each signal, one group for each clock, and static inputs without a clock
pub record Fit (net : Net) (d : Domains) : Type 0 where
  pub one_per_signal : length d.clock_by_sig ≡ length net.graph.signals
  pub signals : (sig : ℕ) (s : Signal) → slice_get net.graph.signals sig ≡ Some s → IsClockedAs d sig s.kind
  pub one_per_clock : length d.group_by_clock ≡ length d.clocks
  pub groups : All (λ k. k < length d.groups) d.group_by_clock
  pub names : AllPairs (λ (a : ClockPin) (b : ClockPin). a.name ≢ b.name) d.clocks
  pub settles : All (λ (k : ClockPin). (1 ≤ k.settle) × (k.settle ≤ 3)) d.clocks
  pub ascending : IsStrictlyIncreasing d.statics
  pub statics : All (IsStill net d) d.statics

-- the signal is an input of the top that is the pin of a clock
abbrev pub IsClockPin : Net → Domains → ℕ → Type 0
IsClockPin net d sig = (s : Signal) × (slice_get net.graph.signals sig ≡ Some s) × (s.kind ≡ Input) × Any (λ (k : ClockPin). k.name ≡ s.name) d.clocks

-- no register's next value reads the bit of a clock pin
abbrev pub ArePinsUnread : Reads → Net → Domains → Type 0
ArePinsUnread reads net d = (r : Reg) (i sig : ℕ) → Contains net.regs r → i < cell_width net.graph r.next → IsClockPin net d sig
    → reads net.graph (node r.next i) (record { sig = sig; at = 0 }) false
