use Rattle.flat_form.proofs.Numbers.{odd-is}
use Rattle.flat_form.proofs.bits.is_odd.Goals as goal

pub returns : goal.returns
returns c = λ f w e. odd-is f w c.args.word e
