-- The words that a register takes.
use Rattle.std.specs.Prelude.{◌≡◌, ◌≢◌, ◌⊎◌, ℕ, Option, Some, None, List, Contains}
use Rattle.cell_graph.specs.declared.cell.CellId.{CellId}
use Rattle.cell_graph.specs.Cells.{Cells}
use Rattle.cdc_model.specs.Word.{own_word}
use Rattle.gray_pointer.specs.declared.register.Register.{Register}
use Rattle.gray_pointer.specs.declared.word.Choice.{Choice}
use Rattle.gray_pointer.specs.Words.{word_of, HasWord, IsChoice}

-- a word of w bits that is taken where this one is next: itself, or a branch of such a word
pub data IsTaken (g : Cells) (w : ℕ) (next : CellId) : CellId → Type 0 where
  Next : IsTaken g w next next
  First : (x : CellId) (b : Choice) → IsTaken g w next x → IsChoice g x w (Some b) → IsTaken g w next b.yes
  Second : (x : CellId) (b : Choice) → IsTaken g w next x → IsChoice g x w (Some b) → IsTaken g w next b.other

-- the word is the register's own, or a choice
abbrev pub Stays : Cells → Register → CellId → Type 0
Stays g r x = (word_of g x r.width ≡ own_word r.sig r.width) ⊎ ((b : Choice) × IsChoice g x r.width (Some b))

-- a word that the register takes and that is neither; or there is none
abbrev pub IsChange : Cells → Register → Option CellId → Type 0
IsChange g r None = (x : CellId) → IsTaken g r.width r.next x → Stays g r x
IsChange g r (Some x) = IsTaken g r.width r.next x × HasWord g x r.width × (word_of g x r.width ≢ own_word r.sig r.width) × IsChoice g x r.width None

-- it is the register's own, or a choice between words that were met
abbrev pub StaysAmong : Cells → Register → List CellId → CellId → Type 0
StaysAmong g r met x = (word_of g x r.width ≡ own_word r.sig r.width) ⊎ ((b : Choice) × IsChoice g x r.width (Some b) × Contains met b.yes × Contains met b.other)

-- A walk over the words that the register takes.
pub record AreTakenSoFar (g : Cells) (r : Register) (met left : List CellId) : Type 0 where
  pub words : (x : CellId) → Contains met x → HasWord g x r.width
  pub taken : (x : CellId) → Contains met x → IsTaken g r.width r.next x
  pub within : (x : CellId) → Contains left x → Contains met x
  pub there : Contains met r.next
  pub done : (x : CellId) → Contains met x → Contains left x ⊎ StaysAmong g r met x
