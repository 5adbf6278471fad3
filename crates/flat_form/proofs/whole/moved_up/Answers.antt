use Rattle.std.proofs.Common.{◌*◌, ◌^◌, ◌∙◌, ap, sym, zero-mul, arith}
use Rattle.flat_form.specs.Whole.{judged}
use Rattle.flat_form.proofs.WholeNumbers.{moved-big}
use Rattle.flat_form.proofs.whole.moved_up.Goals as goal

pub returns-then-a-eq0 : goal.returns-then-a-eq0
returns-then-a-eq0 c = λ w. ap (judged w) (sym (ap (λ n. n * 2 ^ c.args.by) c.if-a-eq0.true ∙ zero-mul (2 ^ c.args.by)))

pub returns-then-by-gt31 : goal.returns-then-by-gt31
returns-then-by-gt31 c = λ w. let some = c.if-a-eq0.false in moved-big w c.args.a c.args.by (omega arith) c.if-by-gt31.true
