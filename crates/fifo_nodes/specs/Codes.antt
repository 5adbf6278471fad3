-- Codes by nodes of a graph.
use Rattle.std.specs.Prelude.{◌≡◌, ◌≢◌, ◌⊎◌, ℕ, ◌≤◌, ◌<◌, length, Bool, Option, Some, None, option_map, List, map, Contains}
use Rattle.cdc_base.specs.declared.bit.Bit.{Bit}
use Rattle.cell_graph.specs.declared.cell.Node.{Node}
use Rattle.cell_graph.specs.Cells.{Cells, signal_width}
use Rattle.cell_graph.specs.Origin.{TreeBit, origin}
use Rattle.cell_graph.specs.Tree.{Tree, Var, Xor, Add, Mux}
use Rattle.cell_graph.specs.Unfolded.{bit_of, tree_of, IsNodeOf}
use Rattle.cdc_model.specs.Word.{cells, IsZero}
use Rattle.fifo_terms.specs.Codes as rules
use Rattle.fifo_terms.specs.Shows.{full_apart, empty_apart}
use Rattle.fifo_terms.specs.Terms.{Term}
use Rattle.gray_pointer.specs.Words.{IsIn}
use Rattle.fifo_nodes.specs.declared.codes.Code.{Code}
use Rattle.fifo_nodes.specs.declared.codes.Moment.{Moment}
use Rattle.fifo_nodes.specs.declared.codes.Moment.TheVariants.{Now, Next}
use Rattle.fifo_nodes.specs.declared.codes.Operands.{Operands}
use Rattle.fifo_nodes.specs.declared.codes.Word.{Word}
use Rattle.fifo_nodes.specs.declared.codes.Word.TheVariants.{Own, Cell}
use Rattle.fifo_nodes.specs.declared.shows.Apart.{Apart}
use Rattle.fifo_nodes.specs.declared.shows.Apart.TheVariants.{Full, Empty}
use Rattle.fifo_nodes.specs.Nodes.{signal_bit}
use Rattle.fifo_nodes.specs.Terms.{terms_of, AreTermsIn}

abbrev pub moment_of : Cells → Moment → rules.Moment
moment_of g Now = rules.Now
moment_of g (Next ts) = rules.Next (terms_of g ts)

-- a code on nodes as one on bits of trees
abbrev pub code_of : Cells → Code → rules.Code
code_of g k = record { b = k.count; w = k.width; held = map (option_map (bit_of g)) k.held; moment = moment_of g k.moment }

-- the terms under which it counts are of the graph
abbrev pub IsMomentIn : Cells → Moment → Type 0
IsMomentIn g Now = Unit {0}
IsMomentIn g (Next ts) = AreTermsIn g ts

-- a code of a signal of two bits or more, by nodes of the graph
pub record IsCodeIn (g : Cells) (k : Code) : Type 0 where
  pub wide : 2 ≤ k.width
  pub signal : signal_width g.signals k.count ≡ k.width
  pub held : (n : Option Node) → Contains k.held n → IsIn g n
  pub moment : IsMomentIn g k.moment

-- the nodes of bits of signals
abbrev pub nodes_of : Cells → List Bit → List TreeBit
nodes_of g bits = map (signal_bit g) bits

-- which bits of the codes differ
abbrev pub apart_of : Apart → ℕ → ℕ → Bool
apart_of Full = full_apart
apart_of Empty = empty_apart

-- a word as the bits of a tree: a register's own, or those of a cell
abbrev pub word_tree : Cells → Word → Tree
word_tree g (Own sig) = Var sig (signal_width g.signals sig)
word_tree g (Cell c) = tree_of g c

abbrev pub word_bit : Cells → Word → ℕ → TreeBit
word_bit g word i = Some (word_tree g word, i)

-- a signal of two bits or more, or a cell of the graph
abbrev pub IsWordIn : Cells → Word → Type 0
IsWordIn g (Own sig) = 2 ≤ signal_width g.signals sig
IsWordIn g (Cell c) = c.0 < length g.cells

-- the operands' bits of the exclusive or that a bit is; or it is none
abbrev pub AreOperands : Cells → TreeBit → Option Operands → Type 0
AreOperands g x None = (a b : Tree) (k : ℕ) → x ≢ Some (Xor a b, k)
AreOperands g x (Some o) = (x ≡ Some (Xor (tree_of g o.one.cell) (tree_of g o.another.cell), o.one.at)) × (o.another.at ≡ o.one.at) × IsNodeOf g o.one × IsNodeOf g o.another

-- the exclusive or of a bit and a zero
abbrev pub IsBesideZero : TreeBit → TreeBit → Type 0
IsBesideZero x y = (a b : Tree) × (k : ℕ) × (x ≡ Some (Xor a b, k)) × ((origin a k ≡ y × IsZero b k) ⊎ (origin b k ≡ y × IsZero a k))

-- a sum, or a choice
abbrev pub IsSumOrChoice : Tree → Type 0
IsSumOrChoice t = ((x y : Tree) × (t ≡ Add x y)) ⊎ ((c x y : Tree) × (t ≡ Mux c x y))

-- the lowest w bits of a tree are a next count under these terms
abbrev pub IsNextCount : (b w : ℕ) → List Term → Tree → Type 0
IsNextCount b w ts t = rules.IsCountAt b w (rules.Next ts) (cells t 0 w)

-- the node fits as bit i of a Gray word of a next count under these terms
abbrev pub FitsNext : (b w : ℕ) → List Term → ℕ → TreeBit → Type 0
FitsNext b w ts i x = (n : List TreeBit) × rules.IsCountAt b w (rules.Next ts) n × rules.FitsGray n i x

-- it does so by the bits of the cell of this node
abbrev pub FitsBy : Cells → (b w : ℕ) → List Term → ℕ → TreeBit → Option Node → Type 0
FitsBy g b w ts i x None = ⊥
FitsBy g b w ts i x (Some n) = IsNextCount b w ts (tree_of g n.cell) × rules.FitsGray (cells (tree_of g n.cell) 0 w) i x
