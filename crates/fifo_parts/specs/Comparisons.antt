-- What may be flags, by what their next values compare.
use Rattle.std.specs.Prelude.{◌≡◌, ◌⊎◌, ℕ, true, not, Option, Some, None, List, Contains}
use Rattle.std.specs.HashMap as hash
use Rattle.std.specs.HashMap.{HashMap}
use Rattle.std.specs.BTreeMap as tree
use Rattle.std.specs.BTreeMap.{BTreeMap}
use Rattle.std.specs.Ordering.{nat_cmp}
use Rattle.std.specs.declared.vec.Vec.{Vec}
use Rattle.cdc_base.specs.contracts.bit.BitPartialEq.TheImpl as equality
use Rattle.cdc_base.specs.declared.bit.Bit.{Bit}
use Rattle.cell_graph.specs.declared.cell.Cell.{Cell}
use Rattle.cell_graph.specs.declared.cell.Cell.TheVariants.{Var}
use Rattle.cell_graph.specs.declared.cell.Node.{Node}
use Rattle.cell_graph.specs.declared.net.Net.{Net}
use Rattle.cell_graph.specs.Cells.{Cells, cell_at}
use Rattle.domains.specs.declared.Domains.{Domains}
use Rattle.domains.specs.Assignment.{clock_of}
use Rattle.cdc_model.specs.Nets.{design_of, is_register_bit, next_tree}
use Rattle.fifo_terms.specs.Shows.{node_terms}
use Rattle.fifo_terms.specs.Terms.{Term, Is, Differ, terms}
use Rattle.fifo_laws.specs.Sides.{bit_node}
use Rattle.fifo_nodes.specs.declared.term.Term.{Term as Found}
use Rattle.fifo_nodes.specs.declared.term.Term.TheVariants as found
use Rattle.fifo_parts.specs.declared.flags.Comparisons.{Comparisons}
use Rattle.fifo_parts.specs.declared.flags.Flag.{Flag}

-- the bit of a signal that bit i of a cell is itself
abbrev pub var_bit : Cell → ℕ → Option Bit
var_bit (Var sig) i = Some (record { sig = sig; at = i })
var_bit c i = None

abbrev pub own_bit : Cells → Node → Option Bit
own_bit g n = var_bit (cell_at g n.cell) n.at

-- the node is itself the bit of a signal
abbrev pub IsBitOf : Cells → Option Node → Bit → Type 0
IsBitOf g None b = ⊥
IsBitOf g (Some n) b = own_bit g n ≡ Some b

-- one of the nodes that the term compares is
abbrev pub HasBit : Cells → Found → Bit → Type 0
HasBit g (found.Is n v) b = ⊥
HasBit g (found.Differ x y v) b = IsBitOf g x b ⊎ IsBitOf g y b

-- the flag is among these
abbrev pub IsAmong : {Z : Type 0} → Option (Vec Flag Z) → Flag → Type 0
IsAmong None f = ⊥
IsAmong (Some v) f = Contains v.items f

-- the flag is kept by the bit, and by the clock
abbrev pub IsAtBit : {S Z : Type 0} → HashMap Bit (Vec Flag Z) S → Bit → Flag → Type 0
IsAtBit by_bit b f = IsAmong (hash.get equality.ghosts.eq by_bit b) f

abbrev pub IsAtClock : {Y : Type 0} → BTreeMap ℕ (Vec Flag Y) → ℕ → Flag → Type 0
IsAtClock by_clock c f = IsAmong (tree.get nat_cmp by_clock c) f

-- the flag is kept by one of the bits, or by the clock
abbrev pub IsFoundBy : {S Z Y : Type 0} → HashMap Bit (Vec Flag Z) S → BTreeMap ℕ (Vec Flag Y) → List Bit → ℕ → Flag → Type 0
IsFoundBy by_bit by_clock bits c f = ((b : Bit) × Contains bits b × IsAtBit by_bit b f) ⊎ IsAtClock by_clock c f

-- What is kept stays, and nothing is added but flags of which P holds.
pub record Grows {K : Type 0} (P : Flag → Type 0) (old new : K → Flag → Type 0) : Type 0 where
  pub kept : (k : K) (f : Flag) → old k f → new k f
  pub only : (k : K) (f : Flag) → new k f → old k f ⊎ P f

abbrev pub GrowsBy : (Flag → Type 0) → (old new : Comparisons) → Type 0
GrowsBy P old new = Grows P (IsAtBit old.by_bit) (IsAtBit new.by_bit) × Grows P (IsAtClock old.by_clock) (IsAtClock new.by_clock)

-- one of the nodes of the term is the bit itself
abbrev pub Compares : Net → Domains → Term → Bit → Type 0
Compares net domains (Is n v) b = ⊥
Compares net domains (Differ x y v) b = (x ≡ bit_node (design_of net domains) b) ⊎ (y ≡ bit_node (design_of net domains) b)

-- each of the terms compares some of the bits
abbrev pub CompareAll : Net → Domains → List Term → List Bit → Type 0
CompareAll net domains ts bits = (t : Term) → Contains ts t → (b : Bit) × Contains bits b × Compares net domains t b

-- where the term is that a node has a value, and each term of the node at the other value compares some of the bits, the flag is found by those or by its clock
abbrev pub IsKeptBy : {S Z Y : Type 0} → Net → Domains → HashMap Bit (Vec Flag Z) S → BTreeMap ℕ (Vec Flag Y) → Flag → ℕ → Term → Type 0
IsKeptBy net domains by_bit by_clock f c (Is n v) = (bits : List Bit) → CompareAll net domains (node_terms n (not v)) bits
    → IsFoundBy by_bit by_clock bits c f
IsKeptBy net domains by_bit by_clock f c (Differ x y v) = Unit {0}

-- on whatever clock it is, the flag is kept by each term of its next value
abbrev pub IsAdded : Net → Domains → Comparisons → Flag → Type 0
IsAdded net domains k f = (c : ℕ) → clock_of domains f.bit ≡ Some c → (t : Term) → Contains (terms (next_tree net f.bit.sig) f.bit.at f.value) t
    → IsKeptBy net domains k.by_bit k.by_clock f c t

-- the flag is one of a register bit that is no plain copy
abbrev pub IsOwn : Net → Domains → Flag → Type 0
IsOwn net domains f = (is_register_bit net f.bit ≡ true) × ((design_of net domains).copied f.bit ≡ None)

-- A flag on a clock, of a register bit that is no plain copy, is kept by each term of its next value; and all that are kept are of such bits.
pub record AreComparisons {S Z Y : Type 0} (net : Net) (domains : Domains) (by_bit : HashMap Bit (Vec Flag Z) S)
    (by_clock : BTreeMap ℕ (Vec Flag Y)) : Type 0 where
  pub compared : (f : Flag) (c : ℕ) → IsOwn net domains f → (design_of net domains).clock f.bit ≡ Some c
      → (t : Term) → Contains (terms (next_tree net f.bit.sig) f.bit.at f.value) t → IsKeptBy net domains by_bit by_clock f c t
  pub own : (f : Flag) (b : Bit) → IsAtBit by_bit b f → IsOwn net domains f
  pub clocked : (f : Flag) (c : ℕ) → IsAtClock by_clock c f → IsOwn net domains f
