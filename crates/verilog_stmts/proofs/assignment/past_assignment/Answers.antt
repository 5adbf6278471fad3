use Rattle.std.proofs.lemmas.Result.{err_from_is_err_and}
use Rattle.verilog_stmts.proofs.AssignmentSteps as Steps
use Rattle.verilog_stmts.proofs.assignment.past_assignment.Goals as goal

pub returns-in-Some-clause-found : goal.returns-in-Some-clause-found
returns-in-Some-clause-found c = Steps.blocking_goes _ _ _ c.in-Some.ensures.found.1

pub returns-clause-found : goal.returns-clause-found
returns-clause-found c = Steps.nonblocking_goes _ _ _ _ _ c.in_default.ensures.free c.in_ok-inner.ensures.found.1 c.in_ok-later.ensures.read

pub returns-in_err-inner-clause-halts : goal.returns-in_err-inner-clause-halts
returns-in_err-inner-clause-halts c = let p = err_from_is_err_and c.from_residual.result c.from_residual.ensures.1 in
    rw (p.1, p.2) (Steps.assignment_refused _ _ c.in_default.ensures.free c.in_err-inner.ensures.free c.in_err-inner.ensures.refused)

pub returns-in_err-later-clause-halts : goal.returns-in_err-later-clause-halts
returns-in_err-later-clause-halts c = let p = err_from_is_err_and c.from_residual-in_err-later.result c.from_residual-in_err-later.ensures.1 in
    rw (p.1, p.2) (Steps.arrow_halts _ _ _ _ c.in_default.ensures.free c.in_ok-inner.ensures.found.1 c.in_err-later.ensures.halts)
