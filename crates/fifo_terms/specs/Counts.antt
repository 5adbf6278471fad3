-- Words that count a register, and numbers of words. A word is the list of its bits, the least significant first.
use Rattle.std.specs.Prelude.{◌≡◌, ℕ, zero, suc, ◌+◌, ◌*◌, ◌/◌, ◌%◌, ◌==◌, Bool, true, false, cond, not, List, [], ◌∷◌, ◌++◌}
use Rattle.cell_graph.specs.Tree.{Tree, Add, Mux}
use Rattle.cell_graph.specs.Origin.{TreeBit}
use Rattle.cdc_model.specs.Word.{cells, origins, own_word, IsStepOfOne}
use Rattle.fifo_terms.specs.Terms.{Term, terms}

-- A word of w bits that counts register b under these terms: its own word plus a step, or a choice between such a word and the own one.
pub data CountsUnder (b w : ℕ) : List TreeBit → List Term → Type 0 where
  First : (x y : Tree) → origins x 0 w ≡ own_word b w → IsStepOfOne y w → CountsUnder b w (cells (Add x y) 0 w) (terms y 0 true)
  Second : (x y : Tree) → origins y 0 w ≡ own_word b w → IsStepOfOne x w → CountsUnder b w (cells (Add x y) 0 w) (terms x 0 true)
  Then : (c x y : Tree) (ts : List Term) → CountsUnder b w (origins x 0 w) ts → origins y 0 w ≡ own_word b w → CountsUnder b w (cells (Mux c x y) 0 w) (terms c 0 true ++ ts)
  Else : (c x y : Tree) (ts : List Term) → origins x 0 w ≡ own_word b w → CountsUnder b w (origins y 0 w) ts → CountsUnder b w (cells (Mux c x y) 0 w) (terms c 0 false ++ ts)

-- the number that a word is
abbrev pub number_of : List Bool → ℕ
number_of [] = 0
number_of (b ∷ bs) = cond b 1 0 + 2 * number_of bs

-- a word with its highest bit inverted
abbrev pub top_inverted : List Bool → List Bool
top_inverted [] = []
top_inverted (b ∷ []) = not b ∷ []
top_inverted (b ∷ c ∷ bs) = b ∷ top_inverted (c ∷ bs)

-- a word with its two highest bits inverted
abbrev pub top_two_inverted : List Bool → List Bool
top_two_inverted [] = []
top_two_inverted (b ∷ []) = not b ∷ []
top_two_inverted (b ∷ c ∷ []) = not b ∷ not c ∷ []
top_two_inverted (b ∷ c ∷ d ∷ bs) = b ∷ top_two_inverted (c ∷ d ∷ bs)

-- the low w bits of a number
abbrev pub binary : (w n : ℕ) → List Bool
binary zero n = []
binary (suc w) n = (n % 2 == 1) ∷ binary w (n / 2)
