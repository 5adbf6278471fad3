-- What the bits so far read, an output reads.
use Rattle.std.proofs.Common.{◌≡◌, ◌<◌, cond, length, []}
use Rattle.cdc_base.specs.declared.bit.Bit.{Bit}
use Rattle.cell_graph.specs.Cofactor.{reads}
use Rattle.cell_graph.specs.Tree.{any_below}
use Rattle.cell_graph.specs.Unfolded.{tree_of}
use Rattle.domains.specs.Nets.{IsNet}
use Rattle.cdc_model.specs.declared.readers.Reader.TheVariants.{Others}
use Rattle.cdc_model.specs.Readers.{HasPlace, reader_at}
use Rattle.cdc_model.specs.Tables.{ShowsNet}
use Rattle.cdc_model.proofs.readers.Readers.note_word.Given as goal

abbrev pub invariant-loop-at : goal.invariant-loop-at
invariant-loop-at l = record {
  same : l.table ≡ l.initial.table;
  spans : l.self.spans ≡ l.initial.self.spans;
  noted : IsNet l.net → ShowsNet l.net [] l.initial.table → l.output.0 < length l.net.graph.cells → (b : Bit) → HasPlace l.initial.self.spans b
      → reader_at l.self b ≡ cond (any_below (λ i. reads [] (tree_of l.net.graph l.output) i b) l.at) Others (reader_at l.initial.self b);
}
