use Rattle.std.proofs.Common.{◌≡◌, length, ℕ, ◌<◌}
use Rattle.cell_graph.specs.declared.cell.CellId.{CellId}
use Rattle.cell_graph.specs.Unfolded.{IsWellFormed, tree_of}
use Rattle.cell_graph.specs.Values.{AreWordsOf, reading_of, tree_value, word_at}
use Rattle.campaign.specs.Lanes.{lane}
use Rattle.campaign.proofs.lanes.Lanes.fill.Given as goal

abbrev pub invariant-loop-place : goal.invariant-loop-place
invariant-loop-place l = record {
  opened : length l.self-inside.rows.items ≡ length l.initial.self-inside.rows.items;
  filled : IsWellFormed l.graph → length l.initial.self-inside.rows.items ≡ length l.graph.cells → (i : ℕ) → i < 8 → AreWordsOf l.graph.signals (lane i l.words)
      → (a : CellId) → a.0 < l.place → word_at (lane i l.self-inside.rows.items) a.0 ≡ tree_value (reading_of (lane i l.words)) (tree_of l.graph a);
}
