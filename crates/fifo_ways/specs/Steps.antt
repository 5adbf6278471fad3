-- One word after the other of a choice by a count.
use Rattle.std.specs.Prelude.{◌≡◌, ℕ, zero, suc, ◌+◌, ◌≤◌, Bool, true, Option, Some, None, option_map, List, [], ◌∷◌, ◌++◌, slice_get}
use Rattle.std.specs.List.{Contains}
use Rattle.cdc_base.specs.declared.bit.Bit.{Bit}
use Rattle.cell_graph.specs.declared.cell.Cell.TheVariants.{Var}
use Rattle.cell_graph.specs.declared.cell.CellId.{CellId}
use Rattle.cell_graph.specs.declared.cell.Node.{Node}
use Rattle.cell_graph.specs.Cells.{Cells, cell_at}
use Rattle.cell_graph.specs.Tree as tree
use Rattle.cell_graph.specs.Tree.{Tree, bit_at}
use Rattle.cell_graph.specs.Origin.{TreeBit, origin}
use Rattle.cell_graph.specs.Unfolded.{tree_of, bit_of, IsNodeOf}
use Rattle.cdc_model.specs.Design.{Design}
use Rattle.fifo_terms.specs.Terms.{HaveOneSet, terms}
use Rattle.fifo_laws.specs.Sides.{Side, bit_node, side_width}
use Rattle.fifo_laws.specs.Words.{index_terms}
use Rattle.gray_pointer.specs.Words.{IsIn}
use Rattle.fifo_nodes.specs.declared.term.Term.{Term}
use Rattle.fifo_nodes.specs.declared.term.Term.TheVariants.{Is}
use Rattle.fifo_ways.specs.declared.choice.Branches.{Branches}
use Rattle.fifo_ways.specs.declared.choice.Index.{Index}
use Rattle.fifo_ways.specs.declared.choice.Step.{Step}

-- the index has all bits but the highest of a side's count, 1 to 10 of them
pub record IsIndexOf (d : Design) (s : Side) (x : Index) : Type 0 where
  pub count : s.reg.count ≡ x.count
  pub bits : side_width d s ≡ x.bits + 1
  pub some : 1 ≤ x.bits
  pub few : x.bits ≤ 10

-- the bit of a signal that a node is; or it is none
abbrev pub IsSignalBit : Design → TreeBit → Option Bit → Type 0
IsSignalBit d x None = (m : Bit) → x ≡ bit_node d m → ⊥
IsSignalBit d x (Some m) = x ≡ bit_node d m

-- the words with one more, where the node is a bit of a signal; or it is none
abbrev pub IsEnded : Design → List Bit → TreeBit → Option (List Bit) → Type 0
IsEnded d words x None = (m : Bit) → x ≡ bit_node d m → ⊥
IsEnded d words x (Some all) = (m : Bit) × (x ≡ bit_node d m) × (all ≡ words ++ m ∷ [])

-- the condition and the branches' origins where a node is a multiplexer's; or it is none
abbrev pub AreBranches : Cells → TreeBit → Option Branches → Type 0
AreBranches g x None = (c a b : Tree) (i : ℕ) → x ≡ Some (tree.Mux c a b, i) → ⊥
AreBranches g x (Some s) =
    ((a b : Tree) × (i : ℕ) × (x ≡ Some (tree.Mux (tree_of g s.cond.cell) a b, i)) × (origin a i ≡ option_map (bit_of g) s.yes)
    × (origin b i ≡ option_map (bit_of g) s.other))
    × (s.cond.at ≡ 0) × IsNodeOf g s.cond × IsIn g s.yes × IsIn g s.other

-- the node chooses this word where the count is at n, and else what another node is
abbrev pub ChoosesFirst : Design → Side → ℕ → TreeBit → Bit → TreeBit → Type 0
ChoosesFirst d s n x word rest = (c : Tree) × (a : Tree) × (b : Tree) × (i : ℕ) × (x ≡ Some (tree.Mux c a b, i))
    × HaveOneSet (terms c 0 true) (index_terms d s n) × (origin a i ≡ bit_node d word) × (origin b i ≡ rest)

-- the word that a node chooses where the count is at n, and the node of the others; or it chooses none
abbrev pub IsStep : Cells → Design → Side → ℕ → TreeBit → Option Step → Type 0
IsStep g d s n x None = (word : Bit) (rest : TreeBit) → ChoosesFirst d s n x word rest → ⊥
IsStep g d s n x (Some step) = ChoosesFirst d s n x step.word (option_map (bit_of g) step.rest) × IsIn g step.rest

-- the conditions are that a side's count is at 0, 1 and so on
abbrev pub AreConditions : Cells → Design → Side → List CellId → Type 0
AreConditions g d s conditions = (n : ℕ) (c : CellId) → slice_get conditions n ≡ Some c → HaveOneSet (terms (tree_of g c) 0 true) (index_terms d s n)

-- a term that a bit of the signal's cell has a value
abbrev pub IsTermOf : Cells → ℕ → CellId → Term → Type 0
IsTermOf g sig c t = (n : Node) × (v : Bool) × (t ≡ Is (Some n) v) × (n.cell ≡ c) × (cell_at g c ≡ Var sig)

-- the cell of a signal in a term, or in terms; or there is none
abbrev pub IsSignalCell : Cells → Term → ℕ → Option CellId → Type 0
IsSignalCell g t sig None = (c : CellId) → IsTermOf g sig c t → ⊥
IsSignalCell g t sig (Some c) = IsTermOf g sig c t

abbrev pub IsIndexCell : Cells → List Term → ℕ → Option CellId → Type 0
IsIndexCell g ts sig None = (t : Term) → Contains ts t → (c : CellId) → IsTermOf g sig c t → ⊥
IsIndexCell g ts sig (Some c) = (t : Term) × Contains ts t × IsTermOf g sig c t

-- bit i of a cell
abbrev pub node_at : CellId → ℕ → Node
node_at c i = record { cell = c; at = i }

-- the terms that the low m bits of a cell are those of n
abbrev pub place_terms : CellId → (m n : ℕ) → List Term
place_terms c zero n = []
place_terms c (suc m) n = place_terms c m n ++ Is (Some (node_at c m)) (bit_at n m) ∷ []
