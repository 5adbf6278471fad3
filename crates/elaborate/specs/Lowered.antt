-- The cells of the vertices that were met: drafts and, behind them, pieces.
use Rattle.std.specs.Prelude.{All, ◌≡◌, ℕ, ◌+◌, ◌-◌, ◌<◌, ◌≤◌, max, min, List, [], ◌∷◌, length, map, Option, Some, None, slice_get, take, unwrap_or, false}
use Rattle.std.specs.Option.{option_map_or}
use Rattle.std.specs.List.{Contains}
use Rattle.cdc_base.specs.declared.signal.Signal.{Signal}
use Rattle.cell_graph.specs.declared.cell.Cell.{Cell}
use Rattle.cell_graph.specs.declared.cell.Cell.TheVariants.{Var, Const, Not, And, Or, Xor, Add, Sub, Eq, Lt, Shl, Shr, Mux, Concat, Slice, Extend, Reduce}
use Rattle.cell_graph.specs.declared.cell.CellId.{CellId}
use Rattle.cell_graph.specs.Below.{IsOperand}
use Rattle.cell_graph.specs.Cells.{Cells, cell_width, width_of, widths}
use Rattle.cell_graph.specs.Nets.{IsWordOf}
use Rattle.cell_graph.specs.Tree.{Tree}
use Rattle.cell_graph.specs.Unfolded.{tree_of, trees, unfolded}
use Rattle.flat_meaning.specs.Trees.{Selects}
use Rattle.flat_meaning.specs.Pieces.{join_pieces, met}
use Rattle.flat_meaning.specs.Pieces as meaning
use Rattle.flat_meaning.specs.Design.{Flat, is_variable}
use Rattle.flat_meaning.specs.SignalTrees.{AreTrees}
use Rattle.driver_trees.specs.declared.draft.Draft.{Draft}
use Rattle.driver_trees.specs.declared.draft.Form.{Form}
use Rattle.driver_trees.specs.declared.draft.Form.TheVariants.{Read, Made}
use Rattle.driver_trees.specs.declared.sketch.Sketch.{Sketch}
use Rattle.driver_trees.specs.declared.sketch.Piece.{Piece}
use Rattle.driver_trees.specs.declared.sketch.Register.{Register}
use Rattle.driver_trees.specs.Drafts.{tree_in, width_at}
use Rattle.driver_trees.specs.Sketches.{AreOrdered, IsPieceIn, IsSketchOf}
use Rattle.elaborate.specs.declared.lower.Tree.{Tree as Lowered}
use Rattle.elaborate.specs.Words.{as_word}

-- ---- cells with their trees

-- the cell was made over earlier ones
pub record IsMadeOf (g : Cells) (id : CellId) (c : Cell) : Type 0 where
  pub there : id.0 < length g.cells
  pub wide : cell_width g id ≡ width_of g.signals (widths g.signals g.cells) c
  pub tree : tree_of g id ≡ unfolded g.signals (trees g) c

-- a cell of w bits that has this tree
pub record HasTree (g : Cells) (made : Lowered) (t : Tree) (w : ℕ) : Type 0 where
  pub word : IsWordOf g made.cell w
  pub tree : tree_of g made.cell ≡ t

-- the n bits joined so far; none where n is 0
abbrev pub IsJoined : Cells → Option Lowered → Tree → ℕ → Type 0
IsJoined g None t n = n ≡ 0
IsJoined g (Some made) t n = (1 ≤ n) × HasTree g made t n

-- bits joined so far, of which something is known, that make with the pieces left the whole of a select of w bits
pub record IsJoiningBy (J : Tree → ℕ → Type 0) (n : ℕ) (left : List meaning.Piece) (at w : ℕ) (whole : Tree) : Type 0 where
  pub low : Tree
  pub is : J low n
  pub within : n ≤ w
  pub same : whole ≡ join_pieces n low (met at w left) w

abbrev pub IsJoining : Cells → Option Lowered → (n : ℕ) → List meaning.Piece → (at w : ℕ) → Tree → Type 0
IsJoining g joined = IsJoiningBy (IsJoined g joined)

-- ---- vertices

abbrev pub tree_met : List (Option Lowered) → ℕ → Option Lowered
tree_met ts v = unwrap_or (slice_get ts v) None

-- the cell of a draft that was met
abbrev pub cell_met : List (Option Lowered) → CellId → CellId
cell_met ts id = option_map_or (λ (made : Lowered). made.cell) (tree_met ts id.0) id

-- the cell whose operands are those that the function gives
abbrev pub over : (CellId → CellId) → Cell → Cell
over m (Var sig) = Var sig
over m (Const w value) = Const w value
over m (Not a) = Not (m a)
over m (And a b) = And (m a) (m b)
over m (Or a b) = Or (m a) (m b)
over m (Xor a b) = Xor (m a) (m b)
over m (Add a b) = Add (m a) (m b)
over m (Sub a b) = Sub (m a) (m b)
over m (Eq a b) = Eq (m a) (m b)
over m (Lt a b) = Lt (m a) (m b)
over m (Shl a by) = Shl (m a) (m by)
over m (Shr a by) = Shr (m a) (m by)
over m (Mux c x y) = Mux (m c) (m x) (m y)
over m (Concat high low) = Concat (m high) (m low)
over m (Slice a at w) = Slice (m a) at w
over m (Extend a w) = Extend (m a) w
over m (Reduce k a) = Reduce k (m a)

-- vertex v was met: its cell, of w bits, has this tree
pub record IsMet (g : Cells) (ts : List (Option Lowered)) (v : ℕ) (t : Tree) (w : ℕ) : Type 0 where
  pub made : Lowered
  pub found : tree_met ts v ≡ Some made
  pub is : HasTree g made t w

-- vertex v was met: its cell has the tree of the draft, or of the piece
pub record Knows (sel : Selects) (ds : List Draft) (ps : List Piece) (g : Cells) (ts : List (Option Lowered)) (v : ℕ) : Type 0 where
  pub draft : (id : CellId) → id.0 ≡ v → v < length ds → IsMet g ts v (tree_in sel ds id) (width_at ds id)
  pub piece : (i : ℕ) (p : Piece) → v ≡ length ds + i → slice_get ps i ≡ Some p → IsMet g ts v (tree_in sel ds p.tree) (width_at ds p.tree)

-- a cell with the tree of vertex v
pub record IsTreeOf (sel : Selects) (ds : List Draft) (ps : List Piece) (g : Cells) (v : ℕ) (made : Lowered) : Type 0 where
  pub draft : (id : CellId) → id.0 ≡ v → v < length ds → HasTree g made (tree_in sel ds id) (width_at ds id)
  pub piece : (i : ℕ) (p : Piece) → v ≡ length ds + i → slice_get ps i ≡ Some p → HasTree g made (tree_in sel ds p.tree) (width_at ds p.tree)

-- the piece has some of the w bits from `at` on
abbrev pub Meets : Piece → ℕ → ℕ → Type 0
Meets p at w = max at p.at < min (at + w) (p.width + p.at)

-- what a form leads to: its operands, or the pieces of a wire that it reads
abbrev pub FormLeadsTo : Flat → (first : ℕ) → List Piece → ℕ → Form → ℕ → Type 0
FormLeadsTo f first ps w (Made cell) e = (a : CellId) × IsOperand cell a × (a.0 ≡ e)
FormLeadsTo f first ps w (Read sig at) e =
    (is_variable f sig ≡ false) × ((i : ℕ) × (p : Piece) × (slice_get ps i ≡ Some p) × (p.sig ≡ sig) × Meets p at w × (e ≡ first + i))

-- what a vertex leads to
pub data LeadsTo (f : Flat) (ds : List Draft) (ps : List Piece) (v e : ℕ) : Type 0 where
  draft : (d : Draft) → slice_get ds v ≡ Some d → FormLeadsTo f (length ds) ps d.width d.form e → LeadsTo f ds ps v e
  piece : (i : ℕ) (p : Piece) → v ≡ length ds + i → slice_get ps i ≡ Some p → e ≡ p.tree.0 → LeadsTo f ds ps v e

-- what each vertex of the order leads to stands before it
abbrev pub EndsStandBefore : Flat → List Draft → List Piece → List ℕ → Type 0
EndsStandBefore f ds ps order = (i v e : ℕ) → slice_get order i ≡ Some v → LeadsTo f ds ps v e → Contains (take i order) e

-- ---- premises

-- pieces of drafts, of which those that a read meets were met
pub record CanJoin (sel : Selects) (ds : List Draft) (ps : List Piece) (g : Cells) (ts : List (Option Lowered)) (sig at w : ℕ) : Type 0 where
  pub stand : All (IsPieceIn ds) ps
  pub ordered : AreOrdered ps
  pub some : 1 ≤ w
  pub room : at + w ≤ 64
  pub known : (i : ℕ) (p : Piece) → slice_get ps i ≡ Some p → p.sig ≡ sig → Meets p at w → IsMet g ts (length ds + i) (tree_in sel ds p.tree) (width_at ds p.tree)

-- the design's sketch, its trees, and the words of a graph for it
pub record CanLower (f : Flat) (sel : Selects) (ds : List Draft) (s : Sketch) (signals : List Signal) : Type 0 where
  pub words : signals ≡ map as_word f.signals
  pub trees : AreTrees f sel
  pub sketch : IsSketchOf f ds s

-- a draft was met
abbrev pub IsDraftMet : Selects → List Draft → Cells → List (Option Lowered) → CellId → Type 0
IsDraftMet sel ds g ts id = IsMet g ts id.0 (tree_in sel ds id) (width_at ds id)

-- the drafts of all registers and outputs were met
pub record AreMet (sel : Selects) (ds : List Draft) (s : Sketch) (g : Cells) (ts : List (Option Lowered)) : Type 0 where
  pub registers : All (λ (r : Register). IsDraftMet sel ds g ts r.next × IsDraftMet sel ds g ts r.clock) s.registers.items
  pub outputs : All (IsDraftMet sel ds g ts) s.outputs.items

-- the order has the drafts of all registers and outputs
pub record AreNeeded (s : Sketch) (order : List ℕ) : Type 0 where
  pub registers : All (λ (r : Register). Contains order r.next.0 × Contains order r.clock.0) s.registers.items
  pub outputs : All (λ (o : CellId). Contains order o.0) s.outputs.items
