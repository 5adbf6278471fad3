-- A bit's readers by all outputs are those by the outputs to come.
use Rattle.std.proofs.Common.{◌≡◌, ℕ, cond, drop, Option, List, []}
use Rattle.std.specs.List.{list_any}
use Rattle.cdc_base.specs.declared.bit.Bit.{Bit}
use Rattle.domains.specs.Nets.{IsNet}
use Rattle.cdc_model.specs.declared.readers.Reader.TheVariants.{Others}
use Rattle.cdc_model.specs.Readers.{ShowsBelow, IsMarked, HasPlace, reader_at, output_reads}
use Rattle.cdc_model.specs.Tables.{ShowsNet}
use Rattle.cdc_model.proofs.readers.Readers.note_outputs.Given as goal

abbrev pub invariant-loop-output : goal.invariant-loop-output
invariant-loop-output l = record {
  same : l.table ≡ l.initial.table;
  spans : l.self.spans ≡ l.initial.self.spans;
  noted : (marks : List (Option ℕ)) → IsNet l.net → ShowsNet l.net [] l.initial.table → ShowsBelow l.net marks l.below
      → (b : Bit) → HasPlace l.initial.self.spans b → IsMarked marks b.sig
      → cond (list_any (output_reads l.net.graph b) (drop l.output-index l.output-items)) Others (reader_at l.self b)
      ≡ cond (list_any (output_reads l.net.graph b) l.output-items) Others (reader_at l.initial.self b);
}
