use Rattle.std.proofs.Common.{◌≡◌, ◌+◌, ◌<◌, ℕ, Some, length, slice_get}
use Rattle.elaborate.proofs.pieces_of.Given as goal

abbrev pub invariant-loop-place : goal.invariant-loop-place
invariant-loop-place l = record {
  size : length l.vertices.items ≡ l.place;
  listed : (i : ℕ) → i < l.place → slice_get l.vertices.items i ≡ Some (length l.sketch.drafts + i);
}
