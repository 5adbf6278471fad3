use Rattle.std.proofs.lemmas.Result.{err_from_is_err_and}
use Rattle.verilog_exprs.proofs.Steps.{halts_for_memory}
use Rattle.verilog_stmts.proofs.AssignmentSteps as Steps
use Rattle.verilog_stmts.proofs.assignment.read_delay.Goals as goal

pub returns-in-Some-clause-read : goal.returns-in-Some-clause-read
returns-in-Some-clause-read c = Steps.delay_number _ _ _ _ c.in-Some.ensures.found.1 c.in-Some.ensures.found.2

pub returns-in_err-name-clause-halts : goal.returns-in_err-name-clause-halts
returns-in_err-name-clause-halts c = let p = err_from_is_err_and c.from_residual.result c.from_residual.ensures.1 in
    rw (p.1, p.2) (Steps.delay_refused _ _ c.in_default.ensures.free c.in_err-name.ensures.free c.in_err-name.ensures.refused)

pub returns-in_err-copy-clause-halts : goal.returns-in_err-copy-clause-halts
returns-in_err-copy-clause-halts c = let p = err_from_is_err_and c.from_residual-in_err-copy.result c.from_residual-in_err-copy.ensures.1 in
    rw p.1 (halts_for_memory _ _ p.2)

pub returns-clause-read : goal.returns-clause-read
returns-clause-read c = Steps.delay_name _ _ _ _ _ c.in_ok-name.ensures.found.1 c.in_ok-copy.ensures
