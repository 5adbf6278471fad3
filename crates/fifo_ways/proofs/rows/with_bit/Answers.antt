-- One bit more.
use Rattle.std.proofs.Common.{◌∙◌, sym}
use Rattle.cofactor.proofs.Shown.{front-more}
use Rattle.fifo_ways.proofs.rows.with_bit.Goals as goal

pub returns-then-bit : goal.returns-then-bit
returns-then-bit c = λ f lt e t. rw (c.shifted_left.ensures, c.from.ensures) (front-more f c.args.at lt c.args.word e (sym t ∙ c.if-bit.true))
