use Rattle.std.proofs.Common.{◌≡◌}
use Rattle.flat_meaning.specs.Trees.{Selects}
use Rattle.elaborate.specs.Grown.{Grows}
use Rattle.elaborate.specs.Lowered.{CanJoin, IsJoined}
use Rattle.elaborate.proofs.Vertices.{IsAt}
use Rattle.elaborate.proofs.lower.Lowering.joined.Given as goal

abbrev pub invariant-loop-place : goal.invariant-loop-place
invariant-loop-place l = record {
  signals : l.self.graph.signals ≡ l.initial.self.graph.signals;
  trees : l.self.trees ≡ l.initial.self.trees;
  grown : Grows l.initial.self.graph l.self.graph;
  joined : (sel : Selects) → CanJoin sel l.sketch.drafts l.sketch.pieces.items l.initial.self.graph l.initial.self.trees.items l.sig l.at l.width
      → IsAt sel l.sketch.drafts l.sketch.pieces.items (IsJoined l.self.graph l.joined.tree) l.joined.bits l.sig l.at l.width l.place;
}
