-- The feeds so far were met, and nothing else was added.
use Rattle.std.proofs.Common.{◌≡◌, ◌⊎◌, ℕ, ◌<◌, Some, slice_get}
use Rattle.std.specs.List.{Contains}
use Rattle.cell_graph.specs.declared.cell.Node.{Node}
use Rattle.cell_graph.specs.Cells.{cell_at}
use Rattle.cell_graph.specs.Feeds.{feeds_of}
use Rattle.fifo_ways.specs.Feeds.{IsFeedOf, KeepPlaces}
use Rattle.fifo_ways.proofs.reach.Fed.meet_feeds.Given as goal

abbrev pub invariant-loop-n : goal.invariant-loop-n
invariant-loop-n l = record {
  there : (k : ℕ) (m : Node) → k < l.n → slice_get (feeds_of l.graph (cell_at l.graph l.node.cell) l.node.at) k ≡ Some m → Contains l.self m;
  places : KeepPlaces l.initial.self l.self;
  kept : (m : Node) → Contains l.initial.self m → Contains l.self m;
  only : (m : Node) → Contains l.self m → Contains l.initial.self m ⊎ IsFeedOf l.graph l.node m;
}
