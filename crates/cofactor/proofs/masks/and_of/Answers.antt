use Rattle.cofactor.proofs.Shown.{and-shown}
use Rattle.cofactor.proofs.masks.and_of.Goals as goal

pub returns : goal.returns
returns c = λ k l w small e f. and-shown k l w c.args.a c.args.b small e f
