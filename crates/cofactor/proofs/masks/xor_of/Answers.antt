use Rattle.cofactor.proofs.Shown.{xor-shown}
use Rattle.cofactor.proofs.masks.xor_of.Goals as goal

pub returns : goal.returns
returns c = λ k l w small e f. xor-shown k l w c.args.a c.args.b small e f
