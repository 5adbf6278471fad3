use Rattle.std.proofs.Common.{◌≡◌, ◌+◌, length, map, take, vec_len}
use Rattle.std.specs.List.{Contains}
use Rattle.flat_meaning.specs.Design.{Flat}
use Rattle.flat_meaning.specs.Trees.{Selects}
use Rattle.elaborate.specs.Lowered.{CanLower, EndsStandBefore, Knows}
use Rattle.elaborate.specs.Words.{as_word}
use Rattle.elaborate.proofs.lowered.Given as goal

abbrev pub invariant-loop-vertex : goal.invariant-loop-vertex
invariant-loop-vertex l = record {
  signals : l.lowering.graph.signals ≡ map as_word l.signals;
  counted : length l.lowering.trees.items ≡ length l.sketch.drafts + length l.sketch.pieces.items;
  known : (f : Flat) (sel : Selects) → CanLower f sel l.sketch.drafts l.sketch (map as_word l.signals)
      → EndsStandBefore f l.sketch.drafts l.sketch.pieces.items l.order
      → (v : _) → Contains (take l.vertex-index l.order) v → Knows sel l.sketch.drafts l.sketch.pieces.items l.lowering.graph l.lowering.trees.items v;
}
