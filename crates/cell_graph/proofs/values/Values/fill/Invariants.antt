use Rattle.std.proofs.Common.{◌≡◌, length, ◌<◌}
use Rattle.cell_graph.specs.declared.cell.CellId.{CellId}
use Rattle.cell_graph.specs.Unfolded.{IsWellFormed, tree_of}
use Rattle.cell_graph.specs.Values.{AreWordsOf, reading_of, tree_value, word_at}
use Rattle.cell_graph.proofs.values.Values.fill.Given as goal

abbrev pub invariant-loop-place : goal.invariant-loop-place
invariant-loop-place l = record {
  opened : length l.self-inside.words.items ≡ length l.initial.self-inside.words.items;
  filled : IsWellFormed l.graph → AreWordsOf l.graph.signals l.words → length l.initial.self-inside.words.items ≡ length l.graph.cells
      → (a : CellId) → a.0 < l.place → word_at l.self-inside.words.items a.0 ≡ tree_value (reading_of l.words) (tree_of l.graph a);
}
