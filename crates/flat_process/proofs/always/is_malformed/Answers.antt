use Rattle.flat_process.proofs.Processes.{not-given, given-fails, other-fails}
use Rattle.flat_process.proofs.always.is_malformed.Goals as goal

pub returns-then-is_none : goal.returns-then-is_none
returns-then-is_none c = λ l bs f is. given-fails l f c.is_none.result (not-given l bs f c.args.form.now c.is_none.result is c.is_none.ensures) c.if-is_none.true

pub returns-else-is_none : goal.returns-else-is_none
returns-else-is_none c = λ l bs f is. other-fails l bs f c.args.form.now c.is_none.result is (not-given l bs f c.args.form.now c.is_none.result is c.is_none.ensures) c.if-is_none.false
