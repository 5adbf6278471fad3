-- What a net and its domains mean as a design with runs.
use Rattle.std.specs.Prelude.{◌≡◌, ℕ, ◌<◌, Bool, true, cond, not, ◌&&◌, nat_lt, ◌↔◌, Option, Some, None, option_map, option_and_then, is_some, unwrap_or, List, [], ◌∷◌, ◌++◌, length, slice_get}
use Rattle.std.specs.List.{list_any}
use Rattle.std.specs.Option.{option_map_or}
use Rattle.cdc_base.specs.declared.bit.Bit.{Bit}
use Rattle.cdc_base.specs.declared.signal.Signal.{Signal}
use Rattle.cell_graph.specs.declared.cell.CellId.{CellId}
use Rattle.cell_graph.specs.declared.cell.Node.{Node}
use Rattle.cell_graph.specs.declared.net.Net.{Net}
use Rattle.cell_graph.specs.declared.net.Reg.{Reg}
use Rattle.cell_graph.specs.Cells.{Cells}
pub use Rattle.cell_graph.specs.Nets.{next_cell, bit_count, HasNextCells}
use Rattle.cell_graph.specs.Cofactor.{known, same, reads}
use Rattle.cell_graph.specs.Tree.{Tree, Const, width, bit_at, bit, any_below}
use Rattle.cell_graph.specs.Unfolded.{tree_of}
use Rattle.clock_constraints.specs.declared.ClockPin.{ClockPin}
use Rattle.domains.specs.declared.Domains.{Domains}
use Rattle.domains.specs.Assignment.{clock_of}
use Rattle.cdc_model.specs.declared.scheme.GrayReg.{GrayReg}
use Rattle.cdc_model.specs.Design.{Design, bits_from, settle_by}
use Rattle.cdc_model.specs.GrayShape.{IsGrayReg}
use Rattle.cdc_model.specs.Schemes.{Trees}

-- what trees by signal show, with what top outputs read and which pairs of registers are counters with their codes
abbrev pub trees_of : (ℕ → Tree) → (Bit → Bool) → (GrayReg → Bool) → Trees
trees_of tree outputs grays = record {
  known = λ cube x. known cube (tree x.sig) x.at;
  same = λ cube x. same cube (tree x.sig) x.at;
  reads = λ cube x b. reads cube (tree x.sig) x.at b;
  is_output = outputs;
  is_gray = grays;
}

-- the tree of a cell, or a zero bit
abbrev pub tree_or_zero : Cells → Option CellId → Tree
tree_or_zero graph None = Const 1 0
tree_or_zero graph (Some id) = tree_of graph id

-- the tree of a register's next value; a zero bit for any other signal
abbrev pub next_tree : Net → ℕ → Tree
next_tree net sig = tree_or_zero net.graph (next_cell net.regs sig)

-- the node of a register bit's next value
abbrev pub next_node_of : Net → Bit → Option Node
next_node_of net b = option_map (λ (c : CellId). record { cell = c; at = b.at }) (next_cell net.regs b.sig)

-- the bits of all registers, in their order
abbrev pub bits_of_registers : List Signal → List Reg → List Bit
bits_of_registers signals [] = []
bits_of_registers signals (r ∷ rs) = bits_from r.sig 0 (bit_count signals r.sig) ++ bits_of_registers signals rs

-- each register is listed once, ascending by its signal
abbrev pub AreAscending : List Reg → Type 0
AreAscending regs = (i j : ℕ) (r s : Reg) → i < j → slice_get regs i ≡ Some r → slice_get regs j ≡ Some s → r.sig < s.sig

-- the bit lies in its signal
abbrev pub is_within : Net → Bit → Bool
is_within net b = nat_lt b.at (bit_count net.graph.signals b.sig)

-- a bit of a register
abbrev pub is_register_bit : Net → Bit → Bool
is_register_bit net b = is_some (next_cell net.regs b.sig) && is_within net b

-- the clock of a bit of a register or a clocked input, where the bit lies in its signal
abbrev pub clock_of_bit : Net → Domains → Bit → Option ℕ
clock_of_bit net domains b = cond (is_within net b) (clock_of domains b) None

-- the value that a bit starts with, where it is known
abbrev pub start_of : List Signal → Bit → Option Bool
start_of signals b = option_and_then (λ (s : Signal). cond (bit_at s.known b.at) (Some (bit_at s.start b.at)) None) (slice_get signals b.sig)

-- the cycles that a clock gives its flops to settle, and those of a clock that may be there
abbrev pub settle_on : Domains → ℕ → ℕ
settle_on domains c = option_map_or (λ (p : ClockPin). p.settle) (slice_get domains.clocks c) 1

abbrev pub settle_at : Domains → Option ℕ → ℕ
settle_at domains clock = settle_by (settle_on domains) clock

-- the design: a clock has its group and its cycles to settle by its number, and a register's next value is its tree's
abbrev pub design_of : Net → Domains → Design
design_of net domains = record {
  width = bit_count net.graph.signals;
  is_register = is_register_bit net;
  is_input = λ b. is_some (clock_of_bit net domains b) && not (is_register_bit net b);
  clocks = length domains.clocks;
  clock = clock_of_bit net domains;
  group_of = λ c. unwrap_or (slice_get domains.group_by_clock c) 0;
  settle = settle_on domains;
  start = start_of net.graph.signals;
  next = λ r x. bit r (next_tree net x.sig) x.at;
  copied = λ x. same [] (next_tree net x.sig) x.at;
}

-- a top output reads the bit
abbrev pub is_read_by_output : Net → Bit → Bool
is_read_by_output net b = list_any (λ (o : CellId). any_below (λ i. reads [] (tree_of net.graph o) i b) (width (tree_of net.graph o))) net.outputs

-- what the trees of a net show, with a test for its Gray registers
abbrev pub net_trees : Net → (GrayReg → Bool) → Trees
net_trees net grays = trees_of (next_tree net) (is_read_by_output net) grays

-- the test finds exactly the Gray registers
abbrev pub FindsGrays : Net → Domains → (GrayReg → Bool) → Type 0
FindsGrays net domains grays = (g : GrayReg) → (grays g ≡ true) ↔ IsGrayReg (design_of net domains) (next_tree net) g
