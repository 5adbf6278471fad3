-- What sides tell of a FIFO, as the code has it.
use Rattle.std.specs.Prelude.{◌≡◌, ◌↔◌, ℕ, ◌≤◌, Bool, cond, not, Option, Some, List, [], ◌∷◌, map, length, Contains}
use Rattle.cdc_base.specs.declared.bit.Bit.{Bit}
use Rattle.cell_graph.specs.declared.net.Net.{Net}
use Rattle.cell_graph.specs.Cells.{Cells}
use Rattle.cell_graph.specs.Shared.{IsShared}
use Rattle.cell_graph.specs.Tree.{Tree}
use Rattle.cofactor.specs.Shown.{Shown as Rows}
use Rattle.domains.specs.declared.Domains.{Domains}
use Rattle.domains.specs.Nets.{IsNet}
use Rattle.cdc_model.specs.Design.{Design}
use Rattle.cdc_model.specs.Nets.{HasNextCells, design_of, next_tree}
use Rattle.cdc_model.specs.Ordered.{IsAll}
use Rattle.cdc_model.specs.Schemes.{last_flop}
use Rattle.cdc_model.specs.Tables.{ShowsNet}
use Rattle.cdc_model.specs.Verdict.{bit_key}
use Rattle.fifo_terms.specs.Terms.{Term, Is}
use Rattle.fifo_laws.specs.Sides.{Side}
use Rattle.fifo_laws.specs.Tests.{IsFullFlag, IsEmptyFlag, IsFullTest, IsEmptyTest}
use Rattle.fifo_nodes.specs.declared.shows.Apart.{Apart}
use Rattle.fifo_nodes.specs.declared.shows.Apart.TheVariants.{Full, Empty}
use Rattle.fifo_nodes.specs.declared.term.Term.{Term as Found}
use Rattle.fifo_nodes.specs.Nodes.{signal_bit}
use Rattle.fifo_nodes.specs.Terms.{term_of}
use Rattle.fifo_parts.specs.declared.flags.Flag.{Flag}
use Rattle.fifo_parts.specs.declared.pair.Pair.{Pair}
use Rattle.fifo_parts.specs.declared.pair.Teller.{Teller}
use Rattle.fifo_parts.specs.declared.side.Side.{Side as SideEntry}
use Rattle.fifo_parts.specs.Sides.{IsSideAlone}

-- The net is one whose cells are told by their places, and the table shows it.
pub record IsShown (net : Net) (table : Rows) : Type 0 where
  pub is_net : IsNet net
  pub has_next : HasNextCells net
  pub is_shared : IsShared net.graph
  pub shows : ShowsNet net [] table

-- The side that an entry stands for.
pub record IsSideOf (net : Net) (domains : Domains) (e : SideEntry) (s : Side) : Type 0 where
  pub alone : IsSideAlone net domains e s.under
  pub reg : s.reg ≡ e.reg
  pub clock : s.clock ≡ e.clock

-- a flag of the near side, for full or for empty
abbrev pub IsFlagBy : Apart → Design → (ℕ → Tree) → (near far : Side) → Bit → Bool → Type 0
IsFlagBy Full d tree near far f u = IsFullFlag d tree near far f u
IsFlagBy Empty d tree near far f u = IsEmptyFlag d tree far near f u

-- a flag for empty starts as for an empty FIFO
abbrev pub MayStart : Apart → Option Bool → Bool → Type 0
MayStart Full start u = Unit {0}
MayStart Empty start u = start ≡ Some (not u)

-- a test of the near side, for full or for empty
abbrev pub IsTestBy : Apart → Design → (ℕ → Tree) → (near far : Side) → Term → Type 0
IsTestBy Full d tree near far t = IsFullTest d tree near far t
IsTestBy Empty d tree near far t = IsEmptyTest d tree far near t

-- the term says that one of the flags has its value
abbrev pub SaysFlag : Cells → List Flag → Term → Type 0
SaysFlag g flags t = (f : Flag) × Contains flags f × (t ≡ Is (signal_bit g f.bit) f.value)

abbrev pub flag_entry_key : Flag → List ℕ
flag_entry_key g = bit_key g.bit (cond g.value 1 0 ∷ [])

-- The near side as it tells: the far side's code comes over in its word, and it has all flags.
pub record IsTeller (net : Net) (domains : Domains) (t : Teller) (near far : Side) : Type 0 where
  pub side : IsSideOf net domains t.side.now near
  pub over : t.over ≡ map last_flop far.over
  pub few : length t.over ≤ 64
  pub flags : IsAll (λ (g : Flag). IsFlagBy t.apart (design_of net domains) (next_tree net) near far g.bit g.value) flag_entry_key t.flags

-- Two sides with what they tell, and the tests for full among the terms of a push.
pub record IsPair (net : Net) (domains : Domains) (p : Pair) (write read : Side) : Type 0 where
  pub write_tells : IsTeller net domains p.write write read
  pub read_tells : IsTeller net domains p.read read write
  pub aparts : (p.write.apart ≡ Full) × (p.read.apart ≡ Empty)
  pub one_width : p.write.side.now.width ≡ p.read.side.now.width
  pub full : (t : Found) → Contains p.full t
      ↔ (Contains p.write.side.now.under t × IsFullTest (design_of net domains) (next_tree net) write read (term_of net.graph t))
