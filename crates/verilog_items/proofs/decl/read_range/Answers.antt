use Rattle.std.proofs.lemmas.Result.{err_from_is_err_and}
use Rattle.verilog_items.proofs.DeclSteps as Steps
use Rattle.verilog_items.proofs.decl.read_range.Goals as goal

pub returns-in_default-clause-read : goal.returns-in_default-clause-read
returns-in_default-clause-read c = Steps.range_none _ _ c.in_default.ensures.free

pub returns-in_err-left-clause-halts : goal.returns-in_err-left-clause-halts
returns-in_err-left-clause-halts c = let p = err_from_is_err_and c.from_residual.result c.from_residual.ensures.1 in
    rw (p.1, p.2) (Steps.range_left_halts _ _ _ _ _ c.in-Some.ensures.found.1 c.in_err-left.ensures.halts)

pub returns-in_err-inner-clause-halts : goal.returns-in_err-inner-clause-halts
returns-in_err-inner-clause-halts c = let p = err_from_is_err_and c.from_residual-in_err-inner.result c.from_residual-in_err-inner.ensures.1 in
    rw (p.1, p.2) (Steps.range_colon_halts _ _ _ _ _ _ _ c.in-Some.ensures.found.1 c.in_ok-left.ensures.read c.in_err-inner.ensures.free c.in_err-inner.ensures.refused)

pub returns-in_err-right-clause-halts : goal.returns-in_err-right-clause-halts
returns-in_err-right-clause-halts c = let p = err_from_is_err_and c.from_residual-in_err-right.result c.from_residual-in_err-right.ensures.1 in
    rw (p.1, p.2) (Steps.range_right_halts _ _ _ _ _ _ _ _ _ c.in-Some.ensures.found.1 c.in_ok-left.ensures.read c.in_ok-inner.ensures.found.1 c.in_err-right.ensures.halts)

pub returns-in_err-rest-clause-halts : goal.returns-in_err-rest-clause-halts
returns-in_err-rest-clause-halts c = let p = err_from_is_err_and c.from_residual-in_err-rest.result c.from_residual-in_err-rest.ensures.1 in
    rw (p.1, p.2) (Steps.range_open _ _ _ _ _ _ _ _ _ _ _ c.in-Some.ensures.found.1 c.in_ok-left.ensures.read c.in_ok-inner.ensures.found.1 c.in_ok-right.ensures.read c.in_err-rest.ensures.free c.in_err-rest.ensures.refused)

pub returns-clause-read : goal.returns-clause-read
returns-clause-read c = Steps.range_done _ _ _ _ _ _ _ _ _ _ _ _ _ c.in-Some.ensures.found.1 c.in_ok-left.ensures.read c.in_ok-inner.ensures.found.1 c.in_ok-right.ensures.read c.in_ok-rest.ensures.found.1 c.make_range.ensures
