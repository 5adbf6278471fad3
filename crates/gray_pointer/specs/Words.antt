-- The words that cells of a graph pass on.
use Rattle.std.specs.Prelude.{◌≡◌, ◌≢◌, ℕ, ◌<◌, ◌≤◌, ◌⊎◌, Option, Some, None, option_map, List, length}
use Rattle.cell_graph.specs.declared.cell.CellId.{CellId}
use Rattle.cell_graph.specs.declared.cell.Node.{Node}
use Rattle.cell_graph.specs.Cells.{Cells, cell_width, signal_width}
use Rattle.cell_graph.specs.Shared.{IsShared}
use Rattle.cell_graph.specs.Tree.{Tree, Var, Xor, Add, Mux}
use Rattle.cell_graph.specs.Origin.{TreeBit, origin}
use Rattle.cell_graph.specs.Unfolded.{IsWellFormed, IsNodeOf, bit_of, tree_of}
use Rattle.cdc_model.specs.Word.{cells, origins, own_word, IsStepOfOne}
use Rattle.gray_pointer.specs.declared.word.Choice.{Choice}
use Rattle.gray_pointer.specs.declared.word.Coded.{Coded}
use Rattle.gray_pointer.specs.declared.word.Coded.TheVariants as coded
use Rattle.gray_pointer.specs.declared.word.Sides.{Sides}
use Rattle.gray_pointer.specs.declared.word.Exclusive.{Exclusive}

-- a graph in which a cell is told by its place
pub record IsPlain (g : Cells) : Type 0 where
  pub well : IsWellFormed g
  pub shared : IsShared g

-- the origins of the lowest w bits of a cell
abbrev pub word_of : Cells → CellId → ℕ → List TreeBit
word_of g id w = origins (tree_of g id) 0 w

-- a cell of the graph that has w bits or more, one or more
abbrev pub HasWord : Cells → CellId → ℕ → Type 0
HasWord g id w = (id.0 < length g.cells) × (1 ≤ w) × (w ≤ cell_width g id)

-- a bit that is there is one of the graph
abbrev pub IsIn : Cells → Option Node → Type 0
IsIn g None = Unit {0}
IsIn g (Some n) = IsNodeOf g n

-- the cell whose own bits the word of a cell is, one of the cells up to it; or there is none
abbrev pub IsWhole : Cells → CellId → ℕ → Option CellId → Type 0
IsWhole g id w None = (t : Tree) → word_of g id w ≢ cells t 0 w
IsWhole g id w (Some whole) = (word_of g id w ≡ cells (tree_of g whole) 0 w) × HasWord g whole w × (whole.0 ≤ id.0)

-- the choice that the word of a cell is, between earlier cells; or it is none
abbrev pub IsChoice : Cells → CellId → ℕ → Option Choice → Type 0
IsChoice g id w None = (c x y : Tree) → word_of g id w ≢ cells (Mux c x y) 0 w
IsChoice g id w (Some b) = ((c : Tree) × (word_of g id w ≡ cells (Mux c (tree_of g b.yes) (tree_of g b.other)) 0 w) × (origin c 0 ≡ option_map (bit_of g) b.cond))
    × IsIn g b.cond × HasWord g b.yes w × HasWord g b.other w × (b.yes.0 < id.0) × (b.other.0 < id.0)

-- a plus word: the sum of the own word and 0 or 1
abbrev pub IsPlus : ℕ → ℕ → List TreeBit → Type 0
IsPlus sig w n = (a b : Tree) × (n ≡ cells (Add a b) 0 w) × ((origins a 0 w ≡ own_word sig w × IsStepOfOne b w) ⊎ (origins b 0 w ≡ own_word sig w × IsStepOfOne a w))

-- the word whose code is looked for
abbrev pub coded_word : Cells → Coded → ℕ → List TreeBit
coded_word g (coded.Cell id) w = word_of g id w
coded_word g (coded.Own sig) w = own_word sig w

-- its bits
abbrev pub coded_bit : Cells → Coded → ℕ → ℕ → TreeBit
coded_bit g (coded.Cell id) w i = origin (tree_of g id) i
coded_bit g (coded.Own sig) w i = Some (Var sig w, i)

-- it has w bits
abbrev pub HasCoded : Cells → Coded → ℕ → Type 0
HasCoded g (coded.Cell id) w = HasWord g id w
HasCoded g (coded.Own sig) w = signal_width g.signals sig ≡ w

-- the operands' bits of the exclusive or that a bit is; or it is none
abbrev pub AreSides : Cells → TreeBit → Option Sides → Type 0
AreSides g bit None = (a b : Tree) (k : ℕ) → bit ≢ Some (Xor a b, k)
AreSides g bit (Some s) = (bit ≡ Some (Xor (tree_of g s.one.cell) (tree_of g s.another.cell), s.one.at)) × (s.another.at ≡ s.one.at) × IsNodeOf g s.one × IsNodeOf g s.another

-- the origins of these
abbrev pub IsExclusive : Cells → TreeBit → Option Exclusive → Type 0
IsExclusive g bit None = (a b : Tree) (k : ℕ) → bit ≢ Some (Xor a b, k)
IsExclusive g bit (Some e) = ((a b : Tree) × (k : ℕ) × (bit ≡ Some (Xor a b, k)) × (origin a k ≡ option_map (bit_of g) e.one) × (origin b k ≡ option_map (bit_of g) e.another))
    × IsIn g e.one × IsIn g e.another
