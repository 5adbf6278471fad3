-- The cells so far show their marks.
use Rattle.std.proofs.Common.{◌≡◌, length, ◌<◌}
use Rattle.cell_graph.specs.declared.cell.CellId.{CellId}
use Rattle.cell_graph.specs.Unfolded.{IsWellFormed}
use Rattle.cdc_model.specs.Marked.{ShowsMarks}
use Rattle.cdc_model.proofs.below.Below.find.Given as goal

abbrev pub invariant-loop-place : goal.invariant-loop-place
invariant-loop-place l = record {
  counted : length l.below ≡ l.place;
  shown : IsWellFormed l.graph → (a : CellId) → a.0 < l.place → ShowsMarks l.graph l.marks l.below a;
}
