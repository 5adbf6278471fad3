use Rattle.std.proofs.lemmas.Result.{err_from_is_err_and}
use Rattle.verilog_stmts.proofs.AssignmentSteps as Steps
use Rattle.verilog_stmts.proofs.assignment.read_later.Goals as goal

pub returns-in_default-clause-read : goal.returns-in_default-clause-read
returns-in_default-clause-read c = Steps.later_none c.args.tokens.now c.in_default.ensures.free

pub returns-in_err-bare-clause-halts : goal.returns-in_err-bare-clause-halts
returns-in_err-bare-clause-halts c = let p = err_from_is_err_and c.from_residual.result c.from_residual.ensures.1 in
    rw (p.1, p.2) (Steps.bare_halts _ _ _ _ c.in-Some.ensures.found.1 c.in_default-after_mark.ensures.free c.in_err-bare.ensures.halts)

pub returns-in_err-delay-clause-halts : goal.returns-in_err-delay-clause-halts
returns-in_err-delay-clause-halts c = let p = err_from_is_err_and c.from_residual-in_err-delay.result c.from_residual-in_err-delay.ensures.1 in
    rw (p.1, p.2) (Steps.parens_halt _ _ _ _ _ _ c.in-Some.ensures.found.1 c.in-Some-after_mark.ensures.found.1 c.in_err-delay.ensures.halts)

pub returns-in_err-rest-clause-halts : goal.returns-in_err-rest-clause-halts
returns-in_err-rest-clause-halts c = let p = err_from_is_err_and c.from_residual-in_err-rest.result c.from_residual-in_err-rest.ensures.1 in
    rw (p.1, p.2) (Steps.parens_open _ _ _ _ _ _ _ _ c.in-Some.ensures.found.1 c.in-Some-after_mark.ensures.found.1 c.in_ok-delay.ensures.read c.in_err-rest.ensures.free c.in_err-rest.ensures.refused)

pub returns-clause-read : goal.returns-clause-read
returns-clause-read c = Steps.parens_done _ _ _ _ _ _ _ _ _ c.in-Some.ensures.found.1 c.in-Some-after_mark.ensures.found.1 c.in_ok-delay.ensures.read c.in_ok-rest.ensures.found.1
