use Rattle.std.proofs.Common.{◌∙◌, sym}
use Rattle.cofactor.proofs.Shown.{front-more, front-same}
use Rattle.cofactor.proofs.masks.with_bit.Goals as goal

pub returns-then-bit : goal.returns-then-bit
returns-then-bit c = λ f lt e t. rw (c.shifted_left.ensures, c.from.ensures) (front-more f c.args.at lt c.args.word e (sym t ∙ c.if-bit.true))

pub returns-else-bit : goal.returns-else-bit
returns-else-bit c = λ f lt e t. front-same f c.args.at c.args.word e (sym t ∙ c.if-bit.false)
