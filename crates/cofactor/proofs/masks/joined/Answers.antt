use Rattle.cofactor.proofs.Shown.{joined-shown}
use Rattle.cofactor.proofs.masks.joined.Goals as goal

pub returns : goal.returns
returns c = λ k l w small e f. rw (c.shifted_left.ensures, c.shifted_left-2.ensures, c.from-by.ensures)
    (joined-shown k l w c.args.low_width c.args.high c.args.low small e f)
