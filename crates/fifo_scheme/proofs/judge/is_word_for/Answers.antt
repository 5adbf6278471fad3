-- By its number, or by its terms.
use Rattle.std.proofs.Common.{refl}
use Rattle.fifo_scheme.proofs.Numbers.{by_number}
use Rattle.fifo_scheme.proofs.judge.is_word_for.Goals as goal

pub returns-then-is_number : goal.returns-then-is_number
returns-then-is_number c = λ write read shown is takes numbers l.
    let t = c.args.taking.now in
    let k = numbers t.bit c.args.word (c.is_number.ensures c.if-is_number.true) in (
      λ e. by_number c.args.shown.net.now c.args.shown.domains.now write read t takes c.args.word k.0 k.1,
      λ h. refl,
    )

pub returns : goal.returns
returns c = λ write read shown is takes numbers l. c.is_word_bit.ensures write read shown is takes l
