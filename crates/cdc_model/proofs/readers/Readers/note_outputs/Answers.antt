-- One output more is noted.
use Rattle.std.proofs.Common.{◌∙◌, sym, subst, []}
use Rattle.cell_graph.specs.declared.cell.CellId.{CellId}
use Rattle.cdc_model.specs.Readers.{HasPlace, reader_at, output_reads}
use Rattle.cdc_model.specs.Tables.{ShowsNet}
use Rattle.cdc_model.proofs.Noted.{outputs_more}
use Rattle.cdc_model.proofs.readers.Readers.note_outputs.Goals as goal

abbrev none : CellId
none = record { 0 = 0 }

pub loop-output-preserved : goal.loop-output-preserved
loop-output-preserved c = record {
  same = c.in_ok-note_output.ensures.unchanged ∙ c.loop-output.invariant.same;
  spans = c.in_ok-note_output.ensures.spans ∙ c.loop-output.invariant.spans;
  noted = λ marks is shown sb b h m.
      outputs_more (output_reads c.args.net.now.graph b) c.as_slice-output-items.result.now c.loop-output.output-index none (reader_at c.loop-output.self b) (reader_at c.note_output.new.self b) c.loop-output-test.true
      (c.in_ok-note_output.ensures.noted marks is (subst (ShowsNet c.args.net.now []) (sym c.loop-output.invariant.same) shown) sb b (subst (λ ss. HasPlace ss b) (sym c.loop-output.invariant.spans) h) m)
      ∙ c.loop-output.invariant.noted marks is shown sb b h m;
}
