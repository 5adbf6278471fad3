-- One register bit more is noted, and in the end all.
use Rattle.std.proofs.Common.{◌∙◌, sym, ap, subst, [], drop, ◌+◌}
use Rattle.std.specs.Prelude.{filter}
use Rattle.cdc_base.specs.declared.bit.Bit.{Bit}
use Rattle.cell_graph.specs.Cofactor.{reads}
use Rattle.cdc_model.specs.Nets.{next_tree, bits_of_registers}
use Rattle.cdc_model.specs.Readers.{HasPlace, reader_at}
use Rattle.cdc_model.specs.Tables.{ShowsNet}
use Rattle.cdc_model.proofs.Noted.{joined, joined_more, joined_end, bit_within}
use Rattle.cdc_model.proofs.readers.Readers.note_registers.Goals as goal

abbrev none : Bit
none = record { sig = 0; at = 0 }

pub loop-bit-preserved : goal.loop-bit-preserved
loop-bit-preserved c = record {
  same = c.in_ok-note_register.ensures.unchanged ∙ c.loop-bit.invariant.same;
  spans = c.in_ok-note_register.ensures.spans ∙ c.loop-bit.invariant.spans;
  noted = λ is has shown sb b h m.
      let p = λ (x : Bit). reads [] (next_tree c.args.net.now x.sig) x.at b in
      let bits = c.as_slice-bit-items.result.now in
      ap (λ r. joined r (filter p (drop (c.loop-bit.bit-index + 1) bits)))
      (c.in_ok-note_register.ensures.noted is has (subst (ShowsNet c.args.net.now []) (sym c.loop-bit.invariant.same) shown) sb
      (bit_within c.args.net.now bits c.loop-bit.bit-index none (c.as_slice-bit-items.ensures ∙ c.in_ok-bits.ensures) c.loop-bit-test.true)
      b (subst (λ ss. HasPlace ss b) (sym c.loop-bit.invariant.spans) h) m)
      ∙ joined_more p bits c.loop-bit.bit-index none (reader_at c.loop-bit.self b) c.loop-bit-test.true
      ∙ c.loop-bit.invariant.noted is has shown sb b h m;
}

pub returns-clause-noted : goal.returns-clause-noted
returns-clause-noted c = λ is has shown sb b h m nobody.
    let bits = c.as_slice-bit-items.result.now in
    joined_end (λ (x : Bit). reads [] (next_tree c.args.net.now x.sig) x.at b) bits (bits_of_registers c.args.net.now.graph.signals c.args.net.now.regs) c.loop-bit.bit-index
    (reader_at c.loop-bit.self b) (reader_at c.args.self.now b) c.loop-bit-test.false (c.loop-bit.invariant.noted is has shown sb b h m) nobody
    (c.as_slice-bit-items.ensures ∙ c.in_ok-bits.ensures)
