use Rattle.std.proofs.Common.{refl}
use Rattle.std.proofs.lemmas.Result.{err_from_is_err_and}
use Rattle.verilog_stmts.proofs.StmtSteps as Steps
use Rattle.verilog_stmts.proofs.stmt.read_set.Goals as goal

pub returns-in_err-target-clause-halts : goal.returns-in_err-target-clause-halts
returns-in_err-target-clause-halts c = let p = err_from_is_err_and c.from_residual.result c.from_residual.ensures.1 in
    rw (p.1, p.2) (Steps.set_target_halts _ _ _ c.in_err-target.ensures.halts)

pub returns-in_err-assigned-clause-halts : goal.returns-in_err-assigned-clause-halts
returns-in_err-assigned-clause-halts c = let p = err_from_is_err_and c.from_residual-in_err-assigned.result c.from_residual-in_err-assigned.ensures.1 in
    rw (p.1, p.2) (Steps.set_mark_halts _ _ _ _ _ c.in_ok-target.ensures.read c.in_err-assigned.ensures.halts)

pub returns-in_err-value-clause-halts : goal.returns-in_err-value-clause-halts
returns-in_err-value-clause-halts c = let p = err_from_is_err_and c.from_residual-in_err-value.result c.from_residual-in_err-value.ensures.1 in
    rw (p.1, p.2) (Steps.set_value_halts _ _ _ _ _ _ _ _ c.in_ok-target.ensures.read c.in_ok-assigned.ensures.found c.in_err-value.ensures.halts)

pub returns-in_err-rest-clause-halts : goal.returns-in_err-rest-clause-halts
returns-in_err-rest-clause-halts c = let p = err_from_is_err_and c.from_residual-in_err-rest.result c.from_residual-in_err-rest.ensures.1 in
    rw (p.1, p.2) (Steps.set_open _ _ _ _ _ _ _ _ _ _ c.in_ok-target.ensures.read c.in_ok-assigned.ensures.found c.in_ok-value.ensures.read c.in_err-rest.ensures.free c.in_err-rest.ensures.refused)

pub returns-clause-read : goal.returns-clause-read
returns-clause-read c = Steps.set_done _ _ _ _ _ _ _ _ _ _ _ _ c.in_ok-target.ensures.read c.in_ok-assigned.ensures.found c.in_ok-value.ensures.read c.in_ok-rest.ensures.found.1 c.make_set.ensures

pub returns-clause-nearest : goal.returns-clause-nearest
returns-clause-nearest c = Steps.takes_none _ _ _ c.make_set.ensures refl
