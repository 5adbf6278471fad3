-- The rings of one bit more, and in the end of all.
use Rattle.cdc_base.specs.declared.bit.Bit.{Bit}
use Rattle.mux_recirc.proofs.Listed.{rings_more, rings_end, in_same}
use Rattle.mux_recirc.proofs.parts.Parts.rings_of.Goals as goal

abbrev none : Bit
none = record { sig = 0; at = 0 }

pub loop-bit-preserved : goal.loop-bit-preserved
loop-bit-preserved c = λ sorted.
    rings_more c.args.self.now.entries.items _ c.loop-bit.rings.items c.add_rings.new.rings.items c.args.bits.now c.loop-bit.bit-index none c.loop-bit-test.true
    (c.loop-bit.invariant sorted) (c.in_ok-add_rings.ensures sorted)

pub returns : goal.returns
returns c = λ sorted n.
    in_same _ c.loop-bit.rings.items _ n (c.into_order.ensures n) (rings_end c.args.self.now.entries.items _ c.loop-bit.rings.items c.args.bits.now c.loop-bit.bit-index c.loop-bit-test.false (c.loop-bit.invariant sorted))
