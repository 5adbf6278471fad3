-- The roots were met, and the feeds of the nodes so far; and only what is fed.
use Rattle.std.proofs.Common.{◌≡◌, ℕ, ◌<◌, Some, slice_get}
use Rattle.std.specs.List.{Contains}
use Rattle.cell_graph.specs.declared.cell.Node.{Node}
use Rattle.fifo_ways.specs.Feeds.{IsFeedOf, IsFed}
use Rattle.fifo_ways.proofs.reach.Fed.find.Given as goal

abbrev pub invariant-loop-place : goal.invariant-loop-place
invariant-loop-place l = record {
  roots : (n : Node) → Contains l.roots n → Contains l.fed n;
  closed : (k : ℕ) (n m : Node) → k < l.place → slice_get l.fed k ≡ Some n → IsFeedOf l.graph n m → Contains l.fed m;
  below : (n : Node) → Contains l.fed n → IsFed l.graph l.roots n;
}
