use Rattle.cofactor.proofs.Shown.{sum-shown}
use Rattle.cofactor.proofs.masks.sum_of.Goals as goal

pub returns : goal.returns
returns c = λ k l small e f. sum-shown k l c.args.width c.args.a c.args.b c.front_of-known.result small e f (c.front_of-known.ensures small)
