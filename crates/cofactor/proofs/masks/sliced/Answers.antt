use Rattle.cofactor.proofs.Shown.{slice-shown}
use Rattle.cofactor.proofs.masks.sliced.Goals as goal

pub returns : goal.returns
returns c = λ k w small fits e. rw (c.shifted_right.ensures, c.shifted_right-2.ensures, c.from-by.ensures)
    (slice-shown k w c.args.at c.args.width c.mask-ones.result c.args.a small fits e c.mask-ones.ensures)
