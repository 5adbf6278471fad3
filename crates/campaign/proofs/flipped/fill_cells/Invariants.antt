use Rattle.std.proofs.Common.{◌≡◌, ◌<◌, ◌∷◌, [], length, ℕ, Some, slice_get}
use Rattle.cell_graph.specs.declared.cell.CellId.{CellId}
use Rattle.cell_graph.specs.Unfolded.{IsWellFormed}
use Rattle.cell_graph.specs.Values.{AreWordsOf, values_of, word_at}
use Rattle.settling_sim.specs.Words.{flip_in}
use Rattle.campaign.specs.Room.{IsConeOf}
use Rattle.campaign.proofs.flipped.fill_cells.Given as goal

abbrev pub invariant-loop-id : goal.invariant-loop-id
invariant-loop-id l = record {
  counted : length l.values ≡ length l.initial.values;
  done : IsWellFormed l.graph → AreWordsOf l.graph.signals (flip_in l.words l.words (l.flipped ∷ [])) → l.flipped.sig < length l.words → length l.initial.values ≡ length l.graph.cells
      → (top : CellId) → IsConeOf l.graph top l.cells → (k : ℕ) (c : CellId) → k < l.id-index → slice_get l.cells k ≡ Some c
      → word_at l.values c.0 ≡ word_at (values_of l.graph (flip_in l.words l.words (l.flipped ∷ []))) c.0;
}
