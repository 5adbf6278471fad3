-- A bit's readers by all notes are those by the notes to come.
use Rattle.std.proofs.Common.{◌≡◌, drop}
use Rattle.cdc_base.specs.declared.bit.Bit.{Bit}
use Rattle.cdc_model.specs.Readers.{HasPlace, reader_at, noted_in}
use Rattle.cdc_model.proofs.readers.Readers.note_all.Given as goal

abbrev pub invariant-loop-bit : goal.invariant-loop-bit
invariant-loop-bit l = record {
  spans : l.self.spans ≡ l.initial.self.spans;
  noted : (b : Bit) → HasPlace l.initial.self.spans b
      → noted_in b (drop l.bit-index l.bits) l.reader (reader_at l.self b) ≡ noted_in b l.bits l.reader (reader_at l.initial.self b);
}
