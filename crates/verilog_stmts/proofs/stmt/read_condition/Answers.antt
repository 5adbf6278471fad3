use Rattle.std.proofs.lemmas.Result.{err_from_is_err_and}
use Rattle.verilog_stmts.proofs.StmtSteps as Steps
use Rattle.verilog_stmts.proofs.stmt.read_condition.Goals as goal

pub returns-in_err-inner-clause-halts : goal.returns-in_err-inner-clause-halts
returns-in_err-inner-clause-halts c = let p = err_from_is_err_and c.from_residual.result c.from_residual.ensures.1 in
    rw (p.1, p.2) (Steps.condition_unopened _ _ _ c.in_err-inner.ensures.free c.in_err-inner.ensures.refused)

pub returns-in_err-cond-clause-halts : goal.returns-in_err-cond-clause-halts
returns-in_err-cond-clause-halts c = let p = err_from_is_err_and c.from_residual-in_err-cond.result c.from_residual-in_err-cond.ensures.1 in
    rw (p.1, p.2) (Steps.condition_halts _ _ _ _ _ c.in_ok-inner.ensures.found.1 c.in_err-cond.ensures.halts)

pub returns-in_err-rest-clause-halts : goal.returns-in_err-rest-clause-halts
returns-in_err-rest-clause-halts c = let p = err_from_is_err_and c.from_residual-in_err-rest.result c.from_residual-in_err-rest.ensures.1 in
    rw (p.1, p.2) (Steps.condition_open _ _ _ _ _ _ _ c.in_ok-inner.ensures.found.1 c.in_ok-cond.ensures.read c.in_err-rest.ensures.free c.in_err-rest.ensures.refused)

pub returns-clause-read : goal.returns-clause-read
returns-clause-read c = Steps.condition_done _ _ _ _ _ _ _ _ c.in_ok-inner.ensures.found.1 c.in_ok-cond.ensures.read c.in_ok-rest.ensures.found.1
