use Rattle.cofactor.proofs.Shown.{not-shown}
use Rattle.cofactor.proofs.masks.not_of.Goals as goal

pub returns : goal.returns
returns c = λ k w small e. not-shown k w c.args.a small e
