use Rattle.cofactor.proofs.Makers.{filled-there, filled-only}
use Rattle.cofactor.proofs.walk.up_to.Goals as goal

pub returns-clause-there : goal.returns-clause-there
returns-clause-there c = filled-there c.args.bits c.from.result c.shifted_right.result c.ranges.bits.fits c.from.ensures c.shifted_right.ensures

pub returns-clause-only : goal.returns-clause-only
returns-clause-only c = filled-only c.args.bits c.from.result c.shifted_right.result c.ranges.bits.fits c.from.ensures c.shifted_right.ensures
