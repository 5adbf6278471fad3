use Rattle.cofactor.proofs.Shown.{extended-shown}
use Rattle.cofactor.proofs.masks.extended.Goals as goal

pub returns : goal.returns
returns c = λ k le small e. extended-shown k c.args.a_width c.args.width c.mask.result c.mask-2.result c.args.a le small e c.mask.ensures c.mask-2.ensures
