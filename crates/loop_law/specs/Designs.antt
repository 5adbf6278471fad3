-- Loops of well sized designs.
use Rattle.std.specs.Prelude.{◌≡◌, ◌↔◌, ℕ, ◌+◌, ◌<◌, List, length, Some, slice_get}
use Rattle.flat_form.specs.declared.flat.Flat.{Flat}
use Rattle.flat_form.specs.View.{flat_of}
use Rattle.flat_form.specs.Sizes.{IsWellSized}
use Rattle.flat_meaning.specs.Sound.{IsSound}
use Rattle.flat_meaning.specs.Segments.{IsLoopFree}
use Rattle.flat_reads.specs.Filled.{IsDesignFilled}
use Rattle.driver_trees.specs.declared.draft.Draft.{Draft}
use Rattle.driver_trees.specs.declared.sketch.Piece.{Piece}
use Rattle.driver_trees.specs.declared.sketch.Sketch.{Sketch}
use Rattle.driver_trees.specs.Sketches.{IsSketchOf}
use Rattle.driver_loops.specs.Orders.{LeadsBack}
use Rattle.loop_law.specs.Loops.{links, HasLoopPiece, HasLoopSegment, IsFirstLoop}

-- no expression or statement of a well sized design has an empty part
abbrev pub WellSizedIsFilled : Type 0
WellSizedIsFilled = (flat : Flat) → IsWellSized flat → IsDesignFilled (flat_of flat)

abbrev pub links_in : Flat → List Draft → Sketch → List (List ℕ)
links_in flat ds k = links (flat_of flat) ds k

-- the same signals lie on loops
abbrev pub SizedSignalsOnLoops : Type 0
SizedSignalsOnLoops = (flat : Flat) (ds : List Draft) (k : Sketch) → IsWellSized flat → IsSound (flat_of flat) → IsSketchOf (flat_of flat) ds k
    → (s : ℕ) → (HasLoopPiece (links_in flat ds k) (length ds) k.pieces.items s) ↔ (HasLoopSegment (flat_of flat) s)

-- no vertex leads back to itself exactly where no segment depends on itself
abbrev pub SizedLoopsAreSegments : Type 0
SizedLoopsAreSegments = (flat : Flat) (ds : List Draft) (k : Sketch) → IsWellSized flat → IsSound (flat_of flat) → IsSketchOf (flat_of flat) ds k
    → ((v : ℕ) → LeadsBack (links_in flat ds k) v → ⊥) ↔ (IsLoopFree (flat_of flat))

-- the first piece that leads back to itself is of the first signal on a loop
abbrev pub SizedFirstLoopIsFirst : Type 0
SizedFirstLoopIsFirst = (flat : Flat) (ds : List Draft) (k : Sketch) → IsWellSized flat → IsSound (flat_of flat) → IsSketchOf (flat_of flat) ds k
    → (n : ℕ) (p : Piece) → slice_get k.pieces.items n ≡ Some p → LeadsBack (links_in flat ds k) (length ds + n)
    → ((m : ℕ) → m < n → LeadsBack (links_in flat ds k) (length ds + m) → ⊥)
    → IsFirstLoop (flat_of flat) p.sig
