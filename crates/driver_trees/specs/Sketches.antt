-- What the sketch of a flat design has: the trees of all its drivers, registers and outputs.
use Rattle.std.specs.Prelude.{◌≡◌, ℕ, ◌+◌, ◌<◌, ◌≤◌, cond, ◌==◌, List, [], ◌∷◌, map, All}
use Rattle.cell_graph.specs.declared.cell.CellId.{CellId}
use Rattle.flat_meaning.specs.Trees.{Selects}
use Rattle.flat_meaning.specs.Pieces as meaning
use Rattle.flat_meaning.specs.Design.{Flat, size_in}
use Rattle.flat_meaning.specs.SignalTrees.{AreTrees, pieces_of, tree_of, next_tree_of, clock_tree_of}
use Rattle.driver_trees.specs.declared.draft.Draft.{Draft}
use Rattle.driver_trees.specs.declared.sketch.Sketch.{Sketch}
use Rattle.driver_trees.specs.declared.sketch.Piece.{Piece}
use Rattle.driver_trees.specs.declared.sketch.Register.{Register}
use Rattle.driver_trees.specs.Drafts.{tree_in, width_at, AreDrafts, IsDraftOf}

-- a piece as the definitions have it
abbrev pub piece_of : Selects → List Draft → Piece → meaning.Piece
piece_of sel ds p = record { at = p.at; bits = p.width; tree = tree_in sel ds p.tree; size = width_at ds p.tree; inside = p.inside }

-- the pieces of one signal
abbrev pub pieces_in : Selects → List Draft → List Piece → ℕ → List meaning.Piece
pieces_in sel ds [] x = []
pieces_in sel ds (p ∷ ps) x = cond (p.sig == x) (piece_of sel ds p ∷ pieces_in sel ds ps x) (pieces_in sel ds ps x)

-- a piece is of bits of its tree, which is a draft
abbrev pub IsPieceIn : List Draft → Piece → Type 0
IsPieceIn ds p = IsDraftOf ds p.tree (width_at ds p.tree) × (1 ≤ p.width) × (p.inside + p.width ≤ width_at ds p.tree)

-- by signal, and in each by place, one above the other
abbrev pub IsBefore : Piece → Piece → Type 0
IsBefore p q = (p.sig ≡ q.sig → p.at + p.width ≤ q.at) × (p.sig ≤ q.sig)

abbrev pub AreOrdered : List Piece → Type 0
AreOrdered [] = Unit {0}
AreOrdered (p ∷ ps) = All (IsBefore p) ps × AreOrdered ps

-- a register's next value and clock; a register's own tree is its variable where the selects are a design's trees
pub record IsRegisterIn (f : Flat) (ds : List Draft) (r : Register) : Type 0 where
  pub next : IsDraftOf ds r.next (size_in f r.sig)
  pub clock : IsDraftOf ds r.clock 1
  pub next_tree : (sel : Selects) → AreTrees f sel → tree_in sel ds r.next ≡ next_tree_of f sel r.sig
  pub clock_tree : (sel : Selects) → tree_in sel ds r.clock ≡ clock_tree_of f sel r.sig

pub record IsSketchOf (f : Flat) (ds : List Draft) (s : Sketch) : Type 0 where
  pub drafts : AreDrafts (size_in f) ds
  pub stand : All (IsPieceIn ds) s.pieces.items
  pub ordered : AreOrdered s.pieces.items
  pub pieces : (sel : Selects) (x : ℕ) → pieces_in sel ds s.pieces.items x ≡ pieces_of f sel x
  pub registers : All (IsRegisterIn f ds) s.registers.items
  pub outputs_stand : All (λ (o : CellId). IsDraftOf ds o (width_at ds o)) s.outputs.items
  pub outputs : (sel : Selects) → map (tree_in sel ds) s.outputs.items ≡ map (tree_of f sel) f.outputs
