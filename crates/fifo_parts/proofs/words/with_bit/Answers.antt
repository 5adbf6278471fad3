-- The bit is set.
use Rattle.std.proofs.Common.{◌∙◌}
use Rattle.cofactor.proofs.Shown.{front-more}
use Rattle.fifo_parts.proofs.words.with_bit.Goals as goal

pub returns-then-at-lt64 : goal.returns-then-at-lt64
returns-then-at-lt64 c = λ f lt e w. front-more f c.args.at lt c.args.word w (e ∙ c.if-value.true)
