-- A bit's readers by all register bits are those by the register bits to come.
use Rattle.std.proofs.Common.{◌≡◌, drop, []}
use Rattle.std.specs.Prelude.{filter}
use Rattle.cdc_base.specs.declared.bit.Bit.{Bit}
use Rattle.cell_graph.specs.Cofactor.{reads}
use Rattle.domains.specs.Nets.{IsNet}
use Rattle.cdc_model.specs.Nets.{HasNextCells, next_tree}
use Rattle.cdc_model.specs.Readers.{ShowsBelow, IsMarked, HasPlace, reader_at}
use Rattle.cdc_model.specs.Tables.{ShowsNet}
use Rattle.cdc_model.proofs.Noted.{joined}
use Rattle.cdc_model.proofs.readers.Readers.note_registers.Given as goal

abbrev pub invariant-loop-bit : goal.invariant-loop-bit
invariant-loop-bit l = record {
  same : l.table ≡ l.initial.table;
  spans : l.self.spans ≡ l.initial.self.spans;
  noted : IsNet l.net → HasNextCells l.net → ShowsNet l.net [] l.initial.table → ShowsBelow l.net l.marks l.below
      → (b : Bit) → HasPlace l.initial.self.spans b → IsMarked l.marks b.sig
      → joined (reader_at l.self b) (filter (λ (x : Bit). reads [] (next_tree l.net x.sig) x.at b) (drop l.bit-index l.bit-items))
      ≡ joined (reader_at l.initial.self b) (filter (λ (x : Bit). reads [] (next_tree l.net x.sig) x.at b) l.bit-items);
}
