-- The arrivals at one bit more, and in the end at all bits.
use Rattle.std.proofs.Common.{subst}
use Rattle.std.proofs.lemmas.List.{take_all}
use Rattle.cdc_base.specs.declared.bit.Bit.{Bit}
use Rattle.obligations.specs.Arrivals.{AreReadsIn}
use Rattle.obligations.specs.Given.{design_in, syncs_in}
use Rattle.obligations.proofs.AddedReads.{reads_more}
use Rattle.obligations.proofs.arrivals.reads_at.Goals as goal

abbrev none : Bit
none = record { sig = 0; at = 0 }

pub loop-bit-preserved : goal.loop-bit-preserved
loop-bit-preserved c = λ grays rings are all up.
    let found = c.args.found.now in
    reads_more found.net.now found.domains.now found.grays.now c.args.bits.now up c.loop-bit.bit-index none c.loop-bit-test.true c.loop-bit.reads.items c.add_read.new.reads.items
    (c.loop-bit.invariant grays rings are all up) (c.in_ok-add_read.ensures grays rings are all)

pub returns : goal.returns
returns c = λ grays rings are all up.
    let found = c.args.found.now in
    subst (λ bits. AreReadsIn (design_in found) found.grays.now (syncs_in found) bits c.loop-bit.reads.items) (take_all c.loop-bit.bit-index c.args.bits.now c.loop-bit-test.false)
    (c.loop-bit.invariant grays rings are all up)
