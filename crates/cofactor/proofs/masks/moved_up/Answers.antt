use Rattle.cofactor.proofs.Shown.{up-shown}
use Rattle.cofactor.proofs.masks.moved_up.Goals as goal

pub returns : goal.returns
returns c = λ k small e. rw (c.shifted_left.ensures, c.shifted_left-2.ensures, c.shifted_left-3.ensures)
    (up-shown k c.args.width c.args.by c.args.a c.mask-ones.result small e c.mask-ones.ensures)
