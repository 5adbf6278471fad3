use Rattle.std.proofs.lemmas.Result.{err_from_is_err_and}
use Rattle.verilog_stmts.proofs.StmtSteps as Steps
use Rattle.verilog_stmts.proofs.stmt.without_label.Goals as goal

pub returns-in_default-clause-found : goal.returns-in_default-clause-found
returns-in_default-clause-found c = Steps.unlabelled _ c.in_default.ensures.free

pub returns-clause-found : goal.returns-clause-found
returns-clause-found c = Steps.labelled _ _ _ _ _ _ c.in-Some.ensures.found.1 c.in_ok-rest.ensures.found.1

pub returns-in_err-rest-clause-halts : goal.returns-in_err-rest-clause-halts
returns-in_err-rest-clause-halts c = let p = err_from_is_err_and c.from_residual.result c.from_residual.ensures.1 in
    rw (p.1, p.2) (Steps.label_refused _ _ _ _ c.in-Some.ensures.found.1 c.in_err-rest.ensures.free c.in_err-rest.ensures.refused)
