use Rattle.std.proofs.lemmas.Result.{err_from_is_err_and}
use Rattle.verilog_items.proofs.InstanceSteps as Steps
use Rattle.verilog_items.proofs.instance.read_value.Goals as goal

pub returns-then-ends_value-clause-read : goal.returns-then-ends_value-clause-read
returns-then-ends_value-clause-read c = let s = c.ends_value.ensures.ends c.if-ends_value.true in Steps.value_none _ _ _ s.1

pub returns-in_err-value-clause-halts : goal.returns-in_err-value-clause-halts
returns-in_err-value-clause-halts c = let p = err_from_is_err_and c.from_residual.result c.from_residual.ensures.1 in
    rw (p.1, p.2) (Steps.value_halts _ _ _ (c.ends_value.ensures.free c.if-ends_value.false) c.in_err-value.ensures.halts)

pub returns-clause-read : goal.returns-clause-read
returns-clause-read c = Steps.value_done _ _ _ _ (c.ends_value.ensures.free c.if-ends_value.false) c.in_ok-value.ensures.read
