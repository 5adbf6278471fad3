use Rattle.std.proofs.Common.{bit_and, refl, sym}
use Rattle.flat_drivers.proofs.Trials.{none-fails, first-fails}
use Rattle.flat_drivers.proofs.drivers.lowest_in.Goals as goal

pub returns-then-bits-eq0 : goal.returns-then-bits-eq0
returns-then-bits-eq0 c = λ fails small e.
    let low = c.low_bits.result in
    sym (none-fails fails c.args.signal.now.width c.args.mask low (bit_and c.args.mask low) small e c.low_bits.ensures.set refl c.if-bits-eq0.true)

pub returns : goal.returns
returns c = λ fails small e.
    let low = c.low_bits.result in
    sym (first-fails fails c.args.signal.now.width c.args.mask low (bit_and c.args.mask low) small e c.low_bits.ensures.set refl c.lowest.result (c.lowest.ensures.set c.if-bits-eq0.false) c.lowest.ensures.lowest)
