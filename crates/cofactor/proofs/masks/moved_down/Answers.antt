use Rattle.cofactor.proofs.Shown.{down-shown}
use Rattle.cofactor.proofs.masks.moved_down.Goals as goal

pub returns : goal.returns
returns c = λ k small e. rw (c.shifted_right.ensures, c.shifted_right-2.ensures, c.shifted_right-3.ensures)
    (down-shown k c.args.width c.args.by c.args.a c.mask-ones.result small e c.mask-ones.ensures)
