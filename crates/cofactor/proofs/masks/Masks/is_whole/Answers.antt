use Rattle.cofactor.proofs.Shown.{whole-is}
use Rattle.cofactor.proofs.masks.Masks.is_whole.Goals as goal

pub returns : goal.returns
returns c = λ k small e. whole-is k c.args.width c.args.self c.mask.result small e c.mask.ensures
