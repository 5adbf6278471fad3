use Rattle.std.proofs.Common.{◌^◌, ◌<◌, arith}
use Rattle.flat_form.specs.Masks.{bits_in}
use Rattle.flat_statements.proofs.Firsts.{latch-word}
use Rattle.flat_statements.proofs.latch.is_open.Goals as goal

pub returns : goal.returns
returns c =
    let surely : c.of.result < 2 ^ 64 = omega arith in
    let exposed : c.of-2.result < 2 ^ 64 = omega arith in
    let may : c.of-3.result < 2 ^ 64 = omega arith in
    latch-word c.of-3.result c.of.result c.of-2.result (bits_in c.args.may.now c.args.sig) (bits_in c.args.paths.now.surely c.args.sig) (bits_in c.args.paths.now.exposed c.args.sig) may surely exposed c.of-3.ensures.bits c.of.ensures.bits c.of-2.ensures.bits
