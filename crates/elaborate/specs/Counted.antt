-- What counts of cells rest on.
use Rattle.std.specs.Prelude.{All, ◌≡◌, ℕ, ◌+◌, ◌≤◌, List, length, Some, slice_get}
use Rattle.cdc_base.specs.declared.signal.Signal.{Signal}
use Rattle.cell_graph.specs.Tree.{Tree}
use Rattle.flat_meaning.specs.Design.{Flat}
use Rattle.flat_meaning.specs.SignalTrees.{AreTrees}
use Rattle.flat_meaning.specs.Trees.{Selects}
use Rattle.driver_trees.specs.declared.draft.Draft.{Draft}
use Rattle.driver_trees.specs.declared.sketch.Piece.{Piece}
use Rattle.driver_trees.specs.declared.sketch.Sketch.{Sketch}
use Rattle.driver_trees.specs.Drafts.{tree_in}
use Rattle.driver_trees.specs.Sketches.{AreOrdered, IsPieceIn, IsSketchOf}
use Rattle.elaborate.specs.Counts.{capped, cells_in, count_at}
use Rattle.elaborate.specs.Lowered.{Meets}

-- the count of n bits joined so far
abbrev pub IsLowCount : (cells : ℕ) → Tree → (n : ℕ) → Type 0
IsLowCount cells low n = 1 ≤ n → cells ≡ capped (cells_in low)

-- the design's sketch and its trees
pub record CanCount (f : Flat) (sel : Selects) (ds : List Draft) (s : Sketch) (signals : List Signal) : Type 0 where
  pub same : f.signals ≡ signals
  pub trees : AreTrees f sel
  pub sketch : IsSketchOf f ds s

-- pieces of drafts, of which those that a read meets were counted
pub record CanAdd (sel : Selects) (ds : List Draft) (ps : List Piece) (counts : List ℕ) (sig at w : ℕ) : Type 0 where
  pub stand : All (IsPieceIn ds) ps
  pub ordered : AreOrdered ps
  pub some : 1 ≤ w
  pub room : at + w ≤ 64
  pub known : (i : ℕ) (p : Piece) → slice_get ps i ≡ Some p → p.sig ≡ sig → Meets p at w → count_at counts (length ds + i) ≡ capped (cells_in (tree_in sel ds p.tree))
