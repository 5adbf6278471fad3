use Rattle.std.proofs.Common.{◌≡◌, ◌+◌, length, take}
use Rattle.std.specs.List.{Contains}
use Rattle.flat_meaning.specs.Design.{Flat}
use Rattle.flat_meaning.specs.Trees.{Selects}
use Rattle.elaborate.specs.Counts.{IsCounted}
use Rattle.elaborate.specs.Counted.{CanCount}
use Rattle.elaborate.specs.Lowered.{EndsStandBefore}
use Rattle.elaborate.proofs.cells_of.Given as goal

abbrev pub invariant-loop-vertex : goal.invariant-loop-vertex
invariant-loop-vertex l = record {
  counted : length l.counts.cells.items ≡ length l.sketch.drafts + length l.sketch.pieces.items;
  known : (f : Flat) (sel : Selects) → CanCount f sel l.sketch.drafts l.sketch l.signals
      → EndsStandBefore f l.sketch.drafts l.sketch.pieces.items l.order
      → (v : _) → Contains (take l.vertex-index l.order) v → IsCounted sel l.sketch.drafts l.sketch.pieces.items l.counts.cells.items v;
}
