use Rattle.std.proofs.Common.{◌<◌, ◌^◌, arith}
use Rattle.flat_meaning.specs.Design.{width_in}
use Rattle.flat_drivers.proofs.Counted.{not-taken, all-taken}
use Rattle.flat_drivers.proofs.drivers.Drivers.taken_bits.Goals as goal

pub returns-then-of-eq0 : goal.returns-then-of-eq0
returns-then-of-eq0 c = λ t p h. (not-taken (width_in c.args.signals.now) c.args.self.now c.args.sig c.of.result c.of.ensures.bits c.if-of-eq0.true).bits t p h

pub returns : goal.returns
returns c = λ t p h.
    let fits : c.of.result < 2 ^ 64 = omega arith in
    (all-taken (width_in c.args.signals.now) c.args.self.now c.args.sig c.of.result c.all_bits.result fits c.of.ensures.bits c.if-of-eq0.false c.all_bits.ensures).bits t p h
