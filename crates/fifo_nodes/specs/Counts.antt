-- Words of cells that count a register.
use Rattle.std.specs.Prelude.{◌≡◌, ◌≢◌, ◌⊎◌, ℕ, ◌≤◌, length, Bool, true, false, Option, Some, None, option_map, List}
use Rattle.cell_graph.specs.declared.cell.CellId.{CellId}
use Rattle.cell_graph.specs.Cells.{Cells, signal_width}
use Rattle.cell_graph.specs.Origin.{TreeBit, origin}
use Rattle.cell_graph.specs.Tree.{Tree, Add, Mux}
use Rattle.cell_graph.specs.Unfolded.{bit_of, tree_of}
use Rattle.cdc_model.specs.Word.{cells, origins, own_word, IsStepOfOne}
use Rattle.fifo_terms.specs.Counts.{CountsUnder}
use Rattle.fifo_terms.specs.Terms.{Term}
use Rattle.gray_pointer.specs.declared.register.Register.{Register}
use Rattle.gray_pointer.specs.Words.{HasWord, word_of, IsIn}
use Rattle.fifo_nodes.specs.declared.counts.Turn.{Turn}
use Rattle.fifo_nodes.specs.declared.term.Term.{Term as Found}
use Rattle.fifo_nodes.specs.Searches.{Searched, Covers}
use Rattle.fifo_nodes.specs.Terms.{AreTerms}

-- the word counts register b under these terms and no others; or it doesn't count it
abbrev pub IsCounted : Cells → (b w : ℕ) → List TreeBit → Option (List Found) → Type 0
IsCounted g b w n None = (ts : List Term) → CountsUnder b w n ts → ⊥
IsCounted g b w n (Some found) = (ts : List Term) × CountsUnder b w n ts × AreTerms g ts found × ((us : List Term) → CountsUnder b w n us → us ≡ ts)

-- a register of two bits or more, whose next value is a cell with its bits
pub record IsCounter (g : Cells) (r : Register) : Type 0 where
  pub wide : 2 ≤ r.width
  pub signal : signal_width g.signals r.sig ≡ r.width
  pub next : HasWord g r.next r.width

-- the word counts register b, and the search goes on by its terms; or it doesn't
abbrev pub IsFollowed : Cells → (b w : ℕ) → List TreeBit → Bool → (old new : Searched) → Type 0
IsFollowed g b w n false old new = (ts : List Term) → CountsUnder b w n ts → ⊥
IsFollowed g b w n true old new = (ts : List Term) × CountsUnder b w n ts × Covers g (length g.cells) ts old new × ((us : List Term) → CountsUnder b w n us → us ≡ ts)

-- the word is the register's own value plus a step; or it is no such sum
abbrev pub IsStep : Cells → (b w : ℕ) → List TreeBit → Option CellId → Type 0
IsStep g b w n None = (x y : Tree) → n ≡ cells (Add x y) 0 w → ((origins x 0 w ≡ own_word b w) × IsStepOfOne y w) ⊎ ((origins y 0 w ≡ own_word b w) × IsStepOfOne x w) → ⊥
IsStep g b w n (Some step) = ((x : Tree) × ((n ≡ cells (Add x (tree_of g step)) 0 w) ⊎ (n ≡ cells (Add (tree_of g step) x) 0 w)) × (origins x 0 w ≡ own_word b w)) × IsStepOfOne (tree_of g step) w × HasWord g step w

-- a choice by c between the own word and another
abbrev pub choice_by : Bool → (c own word : Tree) → ℕ → List TreeBit
choice_by true c own word w = cells (Mux c word own) 0 w
choice_by false c own word w = cells (Mux c own word) 0 w

-- the word is a choice of which exactly one branch is the register's own value; or it is no such choice
abbrev pub IsTurn : Cells → (b w : ℕ) → List TreeBit → Option Turn → Type 0
IsTurn g b w n None = (c x y : Tree) → n ≡ cells (Mux c x y) 0 w
    → ((origins x 0 w ≡ own_word b w) × (origins y 0 w ≢ own_word b w)) ⊎ ((origins x 0 w ≢ own_word b w) × (origins y 0 w ≡ own_word b w)) → ⊥
IsTurn g b w n (Some t) = ((c x : Tree) × (n ≡ choice_by t.value c x (tree_of g t.word) w) × (origins x 0 w ≡ own_word b w) × (origin c 0 ≡ option_map (bit_of g) t.cond))
    × (word_of g t.word w ≢ own_word b w) × HasWord g t.word w × IsIn g t.cond
