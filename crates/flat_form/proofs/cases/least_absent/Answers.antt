use Rattle.std.proofs.Common.{arith}
use Rattle.flat_form.proofs.Labels.{none-among}
use Rattle.flat_form.proofs.cases.least_absent.Goals as goal

pub returns-clause-absent : goal.returns-clause-absent
returns-clause-absent c = λ sorted. let past = c.loop-value-test.false in none-among c.loop-value.next c.args.ascending.now (λ k l. c.loop-value.invariant.absent sorted k (omega arith))
