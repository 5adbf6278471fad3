-- The words of a counter and of a register that follows it, and the walks over them.
use Rattle.std.specs.Prelude.{◌≡◌, ◌≢◌, ◌⊎◌, ℕ, ◌<◌, Option, Some, None, List, Contains}
use Rattle.cell_graph.specs.declared.cell.CellId.{CellId}
use Rattle.cell_graph.specs.Cells.{Cells, signal_width}
use Rattle.cell_graph.specs.Tree.{Tree, Mux}
use Rattle.cell_graph.specs.Origin.{TreeBit, origin}
use Rattle.cell_graph.specs.Unfolded.{tree_of}
use Rattle.cdc_model.specs.declared.scheme.Shape.{Shape}
use Rattle.cdc_model.specs.Word.{cells, IsCount, IsJoint}
use Rattle.cdc_model.specs.GrayShape.{HasShape}
use Rattle.gray_pointer.specs.declared.register.Register.{Register}
use Rattle.gray_pointer.specs.declared.shapes.Both.{Both}
use Rattle.gray_pointer.specs.declared.shapes.Branches.{Branches}
use Rattle.gray_pointer.specs.Words.{word_of, HasWord}

-- the register's signal has its width, and its next value is a cell that has its bits
abbrev pub IsRegisterIn : Cells → Register → Type 0
IsRegisterIn g r = (signal_width g.signals r.sig ≡ r.width) × HasWord g r.next r.width

-- the word of the cell is a count word
abbrev pub Counts : Cells → ℕ → ℕ → CellId → Type 0
Counts g sig w id = IsCount sig w (word_of g id w)

-- it is one where the earlier ones of those met are
abbrev pub CountsAfter : Cells → ℕ → ℕ → List CellId → CellId → Type 0
CountsAfter g sig w met x = ((y : CellId) → Contains met y → y.0 < x.0 → Counts g sig w y) → Counts g sig w x

-- A walk over words: those met and not left are count words where the earlier ones are; all met are where those asked for are.
pub record AreCountsSoFar (g : Cells) (sig w : ℕ) (asked met left : List CellId) : Type 0 where
  pub words : (x : CellId) → Contains met x → HasWord g x w
  pub within : (x : CellId) → Contains left x → Contains met x
  pub kept : (x : CellId) → Contains asked x → Contains met x
  pub done : (x : CellId) → Contains met x → Contains left x ⊎ CountsAfter g sig w met x
  pub needed : ((x : CellId) → Contains asked x → Counts g sig w x) → (x : CellId) → Contains met x → Counts g sig w x

-- a worklist of words to begin with: all that were added are left
pub record AreAsked (g : Cells) (w : ℕ) (met left : List CellId) : Type 0 where
  pub words : (x : CellId) → Contains met x → HasWord g x w
  pub within : (x : CellId) → Contains left x → Contains met x
  pub waits : (x : CellId) → Contains met x → Contains left x

-- the words of the pair are a joint pair of registers b and c
abbrev pub AreJoint : Cells → (b c w : ℕ) → Both → Type 0
AreJoint g b c w x = IsJoint b c w (word_of g x.count w) (word_of g x.gray w)

-- both are cells that have these bits
abbrev pub HaveWords : Cells → Both → ℕ → Type 0
HaveWords g x w = HasWord g x.count w × HasWord g x.gray w

-- it is one where the earlier ones of those met are, and those words are count words
abbrev pub AreJointAfter : Cells → (b c w : ℕ) → List CellId → List Both → Both → Type 0
AreJointAfter g b c w counts met x =
    ((y : CellId) → Contains counts y → Counts g b w y) → ((y : Both) → Contains met y → y.count.0 < x.count.0 → AreJoint g b c w y) → AreJoint g b c w x

-- A walk over pairs, with the count words that it asks for.
pub record AreJointSoFar (g : Cells) (b c w : ℕ) (start : Both) (counts waiting : List CellId) (met left : List Both) : Type 0 where
  pub words : (x : Both) → Contains met x → HaveWords g x w
  pub within : (x : Both) → Contains left x → Contains met x
  pub there : Contains met start
  pub asked : AreAsked g w counts waiting
  pub done : (x : Both) → Contains met x → Contains left x ⊎ AreJointAfter g b c w counts met x
  pub needed : AreJoint g b c w start → ((x : Both) → Contains met x → AreJoint g b c w x) × ((y : CellId) → Contains counts y → Counts g b w y)

-- the pairs of branches of two choices by one condition; or they are no such choices
abbrev pub AreBranches : Cells → Both → ℕ → Option Branches → Type 0
AreBranches g x w None = (c e p q u v : Tree) → word_of g x.count w ≡ cells (Mux c p q) 0 w → word_of g x.gray w ≡ cells (Mux e u v) 0 w → origin c 0 ≢ origin e 0
AreBranches g x w (Some s) = ((c e : Tree) × (word_of g x.count w ≡ cells (Mux c (tree_of g s.yes.count) (tree_of g s.other.count)) 0 w)
    × (word_of g x.gray w ≡ cells (Mux e (tree_of g s.yes.gray) (tree_of g s.other.gray)) 0 w) × (origin c 0 ≡ origin e 0))
    × HaveWords g s.yes w × HaveWords g s.other w × (s.yes.count.0 < x.count.0) × (s.other.count.0 < x.count.0)

-- the shape that the words n and m have; or they have none
abbrev pub IsShape : (b c w : ℕ) → List TreeBit → List TreeBit → Option Shape → Type 0
IsShape b c w n m None = (s : Shape) → HasShape s b c w n m → ⊥
IsShape b c w n m (Some s) = HasShape s b c w n m
