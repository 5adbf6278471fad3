use Rattle.std.proofs.lemmas.Result.{err_from_is_err_and}
use Rattle.verilog_exprs.proofs.Steps.{halts_for_memory}
use Rattle.verilog_stmts.proofs.TargetSteps as Steps
use Rattle.verilog_stmts.proofs.target.read_named.Goals as goal

pub returns-in_err-below-clause-halts : goal.returns-in_err-below-clause-halts
returns-in_err-below-clause-halts c = let p = err_from_is_err_and c.from_residual-in_err-below.result c.from_residual-in_err-below.ensures.1 in
    rw (p.1, p.2) (Steps.aimed_deep _ _ _ _ _ _ c.in-Some.ensures.found.1 c.in_err-below.ensures.high c.in_err-below.ensures.refused)

pub returns-in_err-selected-clause-halts : goal.returns-in_err-selected-clause-halts
returns-in_err-selected-clause-halts c = let p = err_from_is_err_and c.from_residual-in_err-selected.result c.from_residual-in_err-selected.ensures.1 in
    rw (p.1, p.2) (Steps.aimed_halts _ _ _ _ _ _ _ c.in-Some.ensures.found.1 c.in_ok-below.ensures.less c.in_err-selected.ensures.halts)

pub returns-clause-read : goal.returns-clause-read
returns-clause-read c = Steps.aimed_done _ _ _ _ _ _ _ _ _ _ c.in-Some.ensures.found.1 c.in_ok-below.ensures.less c.in_ok-selected.ensures.read c.make_aimed.ensures c.in_ok-name.ensures

pub returns-in_err-name-clause-halts : goal.returns-in_err-name-clause-halts
returns-in_err-name-clause-halts c = let p = err_from_is_err_and c.from_residual.result c.from_residual.ensures.1 in
    rw p.1 (halts_for_memory _ _ p.2)
