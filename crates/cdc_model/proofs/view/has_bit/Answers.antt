-- From 64 places on a word has no bit.
use Rattle.std.proofs.Common.{arith}
use Rattle.std.proofs.lemmas.Bool.Decides.{nat_tests}
use Rattle.cdc_model.proofs.Registers.{no_bit_above}
use Rattle.cdc_model.proofs.view.has_bit.Goals as goal

pub returns-else-at-lt64 : goal.returns-else-at-lt64
returns-else-at-lt64 c = grind (arith, nat_tests, c.if-at-lt64.false, no_bit_above c.args.word c.args.at c.ranges.word.fits c.if-at-lt64.false)
