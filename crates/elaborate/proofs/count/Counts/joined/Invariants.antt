use Rattle.flat_meaning.specs.Trees.{Selects}
use Rattle.elaborate.specs.Counted.{CanAdd, IsLowCount}
use Rattle.elaborate.proofs.Vertices.{IsAt}
use Rattle.elaborate.proofs.count.Counts.joined.Given as goal

abbrev pub invariant-loop-place : goal.invariant-loop-place
invariant-loop-place l = (sel : Selects) → CanAdd sel l.sketch.drafts l.sketch.pieces.items l.self.cells.items l.sig l.at l.width
    → IsAt sel l.sketch.drafts l.sketch.pieces.items (IsLowCount l.joined.cells) l.joined.bits l.sig l.at l.width l.place
