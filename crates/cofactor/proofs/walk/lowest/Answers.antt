use Rattle.std.proofs.Common.{arith}
use Rattle.cofactor.proofs.Makers.{trailing-least}
use Rattle.cofactor.proofs.walk.lowest.Goals as goal

pub returns : goal.returns
returns c = λ i set. let l = trailing-least 64 c.args.bits i set in omega arith
