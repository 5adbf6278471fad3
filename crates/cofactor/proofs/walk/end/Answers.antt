use Rattle.std.proofs.Common.{arith, refl}
use lib.Count.{count_leading_zeros}
use Rattle.cofactor.proofs.Makers.{past-highest}
use Rattle.cofactor.proofs.walk.end.Goals as goal

pub returns : goal.returns
returns c = λ i set. let l = past-highest c.args.bits (count_leading_zeros 64 c.args.bits) i c.ranges.bits.fits refl set in omega arith
