use Rattle.cofactor.proofs.Shown.{or-shown}
use Rattle.cofactor.proofs.masks.or_of.Goals as goal

pub returns : goal.returns
returns c = λ k l w small e f. or-shown k l w c.args.a c.args.b small e f
