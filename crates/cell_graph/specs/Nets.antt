-- Nets whose registers fit their graph.
use Rattle.std.specs.Prelude.{◌≡◌, ℕ, ◌+◌, ◌≤◌, ◌<◌, List, [], ◌∷◌, All, length, map, slice_get, Bool, true, false, cond, if◌then◌else◌, ◌==◌, Option, Some, None}
use Rattle.std.specs.Option.{option_map_or}
use Rattle.cdc_base.specs.declared.signal.Signal.{Signal}
use Rattle.cdc_base.specs.declared.signal.SigKind.{SigKind}
use Rattle.cdc_base.specs.declared.signal.SigKind.TheVariants.{Input, Register, Wire}
use Rattle.cell_graph.specs.declared.cell.CellId.{CellId}
use Rattle.cell_graph.specs.declared.net.Net.{Net}
use Rattle.cell_graph.specs.declared.net.Reg.{Reg}
use Rattle.cell_graph.specs.Cells.{Cells, cell_width}
use Rattle.cell_graph.specs.Feeds.{node}
use Rattle.cell_graph.specs.Unfolded.{IsWellFormed, IsNodeOf}

abbrev pub is_register : SigKind → Bool
is_register Input = false
is_register Register = true
is_register Wire = false

-- the signals from k on that are registers, ascending
abbrev pub register_signals : ℕ → List Signal → List ℕ
register_signals k [] = []
register_signals k (s ∷ ss) = if is_register s.kind then k ∷ register_signals (k + 1) ss else register_signals (k + 1) ss

-- the graph is well formed, the registers are its signals of that kind, in order, and each one's clock is a cell
pub record IsNet (net : Net) : Type 0 where
  pub graph : IsWellFormed net.graph
  pub registers : map (λ (r : Reg). r.sig) net.regs ≡ register_signals 0 net.graph.signals
  pub clocks : All (λ (r : Reg). IsNodeOf net.graph (node r.clock 0)) net.regs

-- the cell of a register's next value
abbrev pub next_cell : List Reg → ℕ → Option CellId
next_cell [] sig = None
next_cell (r ∷ rs) sig = cond (r.sig == sig) (Some r.next) (next_cell rs sig)

-- the bits of a signal; none where there is no such signal
abbrev pub bit_count : List Signal → ℕ → ℕ
bit_count signals sig = option_map_or (λ (s : Signal). s.width) (slice_get signals sig) 0

-- each register's next value is a cell of the net that is as wide as the register
abbrev pub HasNextCells : Net → Type 0
HasNextCells net = (sig : ℕ) (c : CellId) → next_cell net.regs sig ≡ Some c → (c.0 < length net.graph.cells) × (cell_width net.graph c ≡ bit_count net.graph.signals sig)

-- every signal has 1 to 64 bits
abbrev pub AreSized : List Signal → Type 0
AreSized signals = (sig : ℕ) (s : Signal) → slice_get signals sig ≡ Some s → (1 ≤ s.width) × (s.width ≤ 64)

-- a cell of the graph, of w bits
abbrev pub IsWordOf : Cells → CellId → ℕ → Type 0
IsWordOf g id w = (id.0 < length g.cells) × (cell_width g id ≡ w)

-- the later graph has the earlier one's signals, and its cells, at their places and as wide
abbrev pub Keeps : Cells → Cells → Type 0
Keeps g h = (h.signals ≡ g.signals) × ((id : CellId) (w : ℕ) → IsWordOf g id w → IsWordOf h id w)
