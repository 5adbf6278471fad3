-- Loops of drivers, in the trees that a sketch keeps and in the design itself.
use Rattle.std.specs.Prelude.{◌≡◌, ◌↔◌, ℕ, ◌+◌, ◌<◌, Bool, List, length, Some, slice_get}
use Rattle.std.specs.List.{Contains}
use Rattle.cdc_base.specs.declared.signal.Signal.{Signal}
use Rattle.flat_meaning.specs.Design.{Flat}
use Rattle.flat_meaning.specs.Sound.{IsSound}
use Rattle.flat_meaning.specs.Segments.{DependsIn, IsLoopFree}
use Rattle.flat_reads.specs.Filled.{IsDesignFilled}
use Rattle.driver_trees.specs.declared.draft.Draft.{Draft}
use Rattle.driver_trees.specs.declared.sketch.Piece.{Piece}
use Rattle.driver_trees.specs.declared.sketch.Sketch.{Sketch}
use Rattle.driver_trees.specs.Drafts.{AreDrafts}
use Rattle.driver_trees.specs.Sketches.{IsSketchOf}
use Rattle.driver_loops.specs.Orders.{IsOrderOf, LeadsBack, HasLoop}
use Rattle.driver_loops.specs.Walks.{IsMarked}
use Rattle.driver_loops.specs.Leads.{links_of}

-- the links of a design's trees
abbrev pub links : Flat → List Draft → Sketch → List (List ℕ)
links f ds k = links_of f.signals ds k.pieces.items

-- a piece of the signal leads back to itself
pub record HasLoopPiece (ls : List (List ℕ)) (first : ℕ) (ps : List Piece) (s : ℕ) : Type 0 where
  pub place : ℕ
  pub piece : Piece
  pub stands : slice_get ps place ≡ Some piece
  pub of_signal : piece.sig ≡ s
  pub back : LeadsBack ls (first + place)

-- a segment of the signal depends on itself
abbrev pub HasLoopSegment : Flat → ℕ → Type 0
HasLoopSegment f s = (n : ℕ) × (i : ℕ) × DependsIn f n s i s i

-- the first signal with such a segment
pub record IsFirstLoop (f : Flat) (s : ℕ) : Type 0 where
  pub loops : HasLoopSegment f s
  pub none_below : (t : ℕ) → t < s → HasLoopSegment f t → ⊥

-- the vertices of all pieces are among them; `first` is the first piece's
abbrev pub HasAllPieces : ℕ → List Piece → List ℕ → Type 0
HasAllPieces first ps vertices = (n : ℕ) → n < length ps → Contains vertices (first + n)

-- ---- the laws

-- such a signal is one of the design's
abbrev pub LoopsAreOfSignals : Type 0
LoopsAreOfSignals = (f : Flat) (s : ℕ) → HasLoopSegment f s → (x : Signal) × (slice_get f.signals s ≡ Some x)

-- ---- the laws, for drafts

-- where some vertex leads back to itself, a piece does
abbrev pub LoopsHavePieces : Type 0
LoopsHavePieces = (signals : List Signal) (wid : ℕ → ℕ) (ds : List Draft) (ps : List Piece) → AreDrafts wid ds
    → (v : ℕ) → LeadsBack (links_of signals ds ps) v → (s : ℕ) × HasLoopPiece (links_of signals ds ps) (length ds) ps s

-- a walk from all pieces meets all pieces
abbrev pub PiecesAreMet : Type 0
PiecesAreMet = (signals : List Signal) (ds : List Draft) (ps : List Piece) (roots order : List ℕ)
    → HasAllPieces (length ds) ps roots → IsOrderOf (links_of signals ds ps) roots order → HasAllPieces (length ds) ps order

-- ---- the laws, for a sketch of a sound design

-- the same signals lie on loops
abbrev pub SignalsOnLoops : Type 0
SignalsOnLoops = (f : Flat) (ds : List Draft) (k : Sketch) → IsSound f → IsDesignFilled f → IsSketchOf f ds k
    → (s : ℕ) → (HasLoopPiece (links f ds k) (length ds) k.pieces.items s) ↔ (HasLoopSegment f s)

-- no vertex leads back to itself exactly where no segment depends on itself
abbrev pub LoopsAreSegments : Type 0
LoopsAreSegments = (f : Flat) (ds : List Draft) (k : Sketch) → IsSound f → IsDesignFilled f → IsSketchOf f ds k
    → ((v : ℕ) → LeadsBack (links f ds k) v → ⊥) ↔ (IsLoopFree f)

-- the first piece that leads back to itself is of the first signal with a segment that depends on itself
abbrev pub FirstLoopIsFirst : Type 0
FirstLoopIsFirst = (f : Flat) (ds : List Draft) (k : Sketch) → IsSound f → IsDesignFilled f → IsSketchOf f ds k
    → (n : ℕ) (p : Piece) → slice_get k.pieces.items n ≡ Some p → LeadsBack (links f ds k) (length ds + n)
    → ((m : ℕ) → m < n → LeadsBack (links f ds k) (length ds + m) → ⊥)
    → HasLoopSegment f p.sig × ((s : ℕ) → s < p.sig → HasLoopSegment f s → ⊥)

-- ---- the laws of walks from all pieces, and from whatever other roots

-- such a walk meets a loop exactly where some signal lies on one
abbrev pub WalksMeetLoops : Type 0
WalksMeetLoops = (f : Flat) (ds : List Draft) (k : Sketch) → IsSound f → IsDesignFilled f → IsSketchOf f ds k
    → (roots order : List ℕ) → HasAllPieces (length ds) k.pieces.items roots → IsOrderOf (links f ds k) roots order
    → (HasLoop (links f ds k) order) ↔ ((s : ℕ) × HasLoopSegment f s)

-- the vertices of the order that lead back to themselves are marked, and no others
abbrev pub AreLoopMarks : List (List ℕ) → List ℕ → List Bool → Type 0
AreLoopMarks ls order marks = (v : ℕ) → (IsMarked marks v) ↔ (Contains order v × LeadsBack ls v)

-- where the walk meets a loop a piece is marked
abbrev pub LoopsAreMarked : Type 0
LoopsAreMarked = (signals : List Signal) (wid : ℕ → ℕ) (ds : List Draft) (ps : List Piece) → AreDrafts wid ds
    → (roots order : List ℕ) (marks : List Bool) → HasAllPieces (length ds) ps roots → IsOrderOf (links_of signals ds ps) roots order → AreLoopMarks (links_of signals ds ps) order marks
    → HasLoop (links_of signals ds ps) order → (n : ℕ) × (n < length ps) × IsMarked marks (length ds + n)

-- the first marked piece is of the first signal on a loop
abbrev pub FirstMarkIsFirst : Type 0
FirstMarkIsFirst = (f : Flat) (ds : List Draft) (k : Sketch) → IsSound f → IsDesignFilled f → IsSketchOf f ds k
    → (roots order : List ℕ) (marks : List Bool) → HasAllPieces (length ds) k.pieces.items roots → IsOrderOf (links f ds k) roots order → AreLoopMarks (links f ds k) order marks
    → (n : ℕ) (p : Piece) → slice_get k.pieces.items n ≡ Some p → IsMarked marks (length ds + n) → ((m : ℕ) → m < n → IsMarked marks (length ds + m) → ⊥)
    → IsFirstLoop f p.sig
