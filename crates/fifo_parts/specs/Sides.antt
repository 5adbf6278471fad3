-- Sides of FIFOs as the code has them.
use Rattle.std.specs.Prelude.{◌≡◌, ℕ, ◌<◌, ◌≤◌, Bool, true, false, Option, Some, None, option_map, unwrap_or, List, map, length, slice_get, Contains}
use Rattle.std.specs.List.{AllByRecursion}
use Rattle.cdc_base.specs.declared.bit.Bit.{Bit}
use Rattle.cdc_base.specs.declared.signal.Signal.{Signal}
use Rattle.cell_graph.specs.declared.cell.Cell.TheVariants.{Var}
use Rattle.cell_graph.specs.declared.cell.CellId.{CellId}
use Rattle.cell_graph.specs.declared.cell.Node.{Node}
use Rattle.cell_graph.specs.declared.net.Net.{Net}
use Rattle.cell_graph.specs.Cells.{Cells, cell_at}
use Rattle.cell_graph.specs.Origin.{TreeBit}
use Rattle.cell_graph.specs.Tree.{Tree}
use Rattle.cell_graph.specs.Unfolded.{bit_of}
use Rattle.domains.specs.declared.Domains.{Domains}
use Rattle.domains.specs.Assignment.{clock_of}
use Rattle.cdc_model.specs.declared.scheme.GrayReg.{GrayReg}
use Rattle.cdc_model.specs.declared.scheme.Shape.{Shape}
use Rattle.cdc_model.specs.declared.scheme.Shape.TheVariants.{G1, G2, G3}
use Rattle.cdc_model.specs.Design.{bits_from}
use Rattle.cdc_model.specs.Nets.{bit_count, next_cell, next_tree, start_of, settle_on}
use Rattle.cdc_model.specs.Word.{origins, own_word}
use Rattle.fifo_terms.specs.Codes as rules
use Rattle.fifo_terms.specs.Counts.{CountsUnder}
use Rattle.fifo_terms.specs.Terms.{Term}
use Rattle.fifo_laws.specs.Sides.{held_in}
use Rattle.gray_pointer.specs.Words.{IsIn}
use Rattle.fifo_nodes.specs.declared.codes.Code.{Code}
use Rattle.fifo_nodes.specs.declared.term.Term.{Term as Found}
use Rattle.fifo_nodes.specs.Codes.{code_of, IsCodeIn}
use Rattle.fifo_nodes.specs.Terms.{AreTerms, terms_of}
use Rattle.fifo_parts.specs.declared.side.Outline.{Outline}
use Rattle.fifo_parts.specs.declared.side.Side.{Side}

-- Each signal has its place, each cell that is kept for one is that signal's, and one is kept where a cell before place n is.
pub record AreVarsBelow (g : Cells) (n : ℕ) (cells : List (Option CellId)) : Type 0 where
  pub places : length cells ≡ length g.signals
  pub only : (sig : ℕ) (c : CellId) → slice_get cells sig ≡ Some (Some c) → (cell_at g c ≡ Var sig) × (c.0 < length g.cells)
  pub all : (sig : ℕ) (c : CellId) → c.0 < n → cell_at g c ≡ Var sig → sig < length cells → (d : CellId) × (slice_get cells sig ≡ Some (Some d))

-- so of all cells
abbrev pub AreVars : Cells → List (Option CellId) → Type 0
AreVars g cells = AreVarsBelow g (length g.cells) cells

-- some cell is the signal
abbrev pub HasVar : Cells → ℕ → Type 0
HasVar g sig = (c : CellId) × (c.0 < length g.cells) × (cell_at g c ≡ Var sig)

-- the cell that is kept for a signal
abbrev pub var_of : List (Option CellId) → ℕ → Option CellId
var_of cells sig = unwrap_or (slice_get cells sig) None

-- all bits of a signal
abbrev pub all_bits : List Signal → ℕ → List Bit
all_bits signals sig = bits_from sig 0 (bit_count signals sig)

-- each of the bits starts at 0
abbrev pub AllStartAtZero : List Signal → List Bit → Type 0
AllStartAtZero signals bits = AllByRecursion (λ b. start_of signals b ≡ Some false) bits

-- the register holds the code of the count, and not of the one before
abbrev pub holds : Shape → Bool
holds G1 = true
holds G2 = true
holds G3 = false

-- What a Gray register is by its widths, its clock, its start and the cells of both next values.
pub record IsOutline (net : Net) (domains : Domains) (reg : GrayReg) (o : Outline) : Type 0 where
  pub wide : (2 ≤ o.width) × (o.width ≤ 11)
  pub count_width : bit_count net.graph.signals reg.count ≡ o.width
  pub gray_width : bit_count net.graph.signals reg.gray ≡ o.width
  pub clock : clock_of domains (record { sig = reg.count; at = 0 }) ≡ Some o.clock
  pub settles : settle_on domains o.clock ≡ 1
  pub start : AllStartAtZero net.graph.signals (all_bits net.graph.signals reg.count) × AllStartAtZero net.graph.signals (all_bits net.graph.signals reg.gray)
  pub next : next_cell net.regs reg.count ≡ Some o.next
  pub gray_next : next_cell net.regs reg.gray ≡ Some o.gray_next

-- nodes of the graph that are these bits
abbrev pub AreNodes : Cells → List (Option Node) → List TreeBit → Type 0
AreNodes g held bits = (map (option_map (bit_of g)) held ≡ bits) × ((n : Option Node) → Contains held n → IsIn g n)

-- the nodes that hold the code of the count; none are found where the register holds it and no cell is the register
abbrev pub IsHeldNow : Cells → GrayReg → ℕ → Option (List (Option Node)) → Type 0
IsHeldNow g reg w None = (holds reg.shape ≡ true) × (HasVar g reg.gray → ⊥)
IsHeldNow g reg w (Some held) = AreNodes g held (held_in reg.shape (own_word reg.gray w))

-- the code of the count, by nodes of the graph
abbrev pub IsNowCode : Cells → GrayReg → ℕ → Code → Type 0
IsNowCode g reg w c = (code_of g c ≡ record { b = reg.count; w = w; held = held_in reg.shape (own_word reg.gray w); moment = rules.Now }) × IsCodeIn g c

-- the code of the next count, by the tree of the Gray register's next value and the terms under which the counter counts
abbrev pub IsNextCode : Cells → GrayReg → ℕ → Tree → List Found → Code → Type 0
IsNextCode g reg w t ts c = (code_of g c ≡ record { b = reg.count; w = w; held = held_in reg.shape (origins t 0 w); moment = rules.Next (terms_of g ts) }) × IsCodeIn g c

-- A side by itself: it has an outline, its counter counts under these terms, and it has both codes.
pub record IsSideAlone (net : Net) (domains : Domains) (s : Side) (ts : List Term) : Type 0 where
  pub wide : (2 ≤ s.width) × (s.width ≤ 11)
  pub count_width : bit_count net.graph.signals s.reg.count ≡ s.width
  pub gray_width : bit_count net.graph.signals s.reg.gray ≡ s.width
  pub clock : clock_of domains (record { sig = s.reg.count; at = 0 }) ≡ Some s.clock
  pub settles : settle_on domains s.clock ≡ 1
  pub start : AllStartAtZero net.graph.signals (all_bits net.graph.signals s.reg.count) × AllStartAtZero net.graph.signals (all_bits net.graph.signals s.reg.gray)
  pub counts : CountsUnder s.reg.count s.width (origins (next_tree net s.reg.count) 0 s.width) ts
  pub under : AreTerms net.graph ts s.under
  pub now : IsNowCode net.graph s.reg s.width s.now
  pub next : IsNextCode net.graph s.reg s.width (next_tree net s.reg.gray) s.under s.next

-- a side by itself, under some terms
abbrev pub IsSomeSide : Net → Domains → Side → Type 0
IsSomeSide net domains s = (ts : List Term) × IsSideAlone net domains s ts

-- What makes a Gray register a side: its outline, terms under which its counter counts, and a cell that is the register where that holds the code of the count.
pub record MakesSide (net : Net) (domains : Domains) (reg : GrayReg) (o : Outline) (ts : List Term) : Type 0 where
  pub outline : IsOutline net domains reg o
  pub counts : CountsUnder reg.count o.width (origins (next_tree net reg.count) 0 o.width) ts
  pub read : holds reg.shape ≡ true → HasVar net.graph reg.gray
