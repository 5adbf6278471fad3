use Rattle.cofactor.proofs.Shown.{difference-shown}
use Rattle.cofactor.proofs.masks.difference_of.Goals as goal

pub returns : goal.returns
returns c = λ k l small e f. difference-shown k l c.args.width c.args.a c.args.b c.front_of-known.result small e f (c.front_of-known.ensures small)
