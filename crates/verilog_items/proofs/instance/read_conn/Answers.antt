use Rattle.std.proofs.lemmas.Result.{err_from_is_err_and}
use Rattle.verilog_exprs.proofs.Steps.{halts_for_memory}
use Rattle.verilog_items.proofs.InstanceSteps as Steps
use Rattle.verilog_items.proofs.instance.read_conn.Goals as goal

pub returns-in_err-inner-clause-halts : goal.returns-in_err-inner-clause-halts
returns-in_err-inner-clause-halts c = let p = err_from_is_err_and c.from_residual.result c.from_residual.ensures.1 in
    rw (p.1, p.2) (Steps.conn_dot_halts _ _ _ c.in_err-inner.ensures.free c.in_err-inner.ensures.refused)

pub returns-in_err-name-clause-halts : goal.returns-in_err-name-clause-halts
returns-in_err-name-clause-halts c = let p = err_from_is_err_and c.from_residual-in_err-name.result c.from_residual-in_err-name.ensures.1 in
    rw (p.1, p.2) (Steps.conn_name_halts _ _ _ _ _ c.in_ok-inner.ensures.found.1 c.in_err-name.ensures.free c.in_err-name.ensures.refused)

pub returns-in_err-inner-2-clause-halts : goal.returns-in_err-inner-2-clause-halts
returns-in_err-inner-2-clause-halts c = let p = err_from_is_err_and c.from_residual-in_err-inner-2.result c.from_residual-in_err-inner-2.ensures.1 in
    rw (p.1, p.2) (Steps.conn_paren_halts _ _ _ _ _ _ _ _ c.in_ok-inner.ensures.found.1 c.in_ok-name.ensures.found.1 c.in_err-inner-2.ensures.free c.in_err-inner-2.ensures.refused)

pub returns-in_err-value-clause-halts : goal.returns-in_err-value-clause-halts
returns-in_err-value-clause-halts c = let p = err_from_is_err_and c.from_residual-in_err-value.result c.from_residual-in_err-value.ensures.1 in
    rw (p.1, p.2) (Steps.conn_value_halts _ _ _ _ _ _ _ _ _ _ c.in_ok-inner.ensures.found.1 c.in_ok-name.ensures.found.1 c.in_ok-inner-2.ensures.found.1 c.in_err-value.ensures.halts)

pub returns-in_err-rest-clause-halts : goal.returns-in_err-rest-clause-halts
returns-in_err-rest-clause-halts c = let p = err_from_is_err_and c.from_residual-in_err-rest.result c.from_residual-in_err-rest.ensures.1 in
    rw (p.1, p.2) (Steps.conn_open _ _ _ _ _ _ _ _ _ _ _ _ c.in_ok-inner.ensures.found.1 c.in_ok-name.ensures.found.1 c.in_ok-inner-2.ensures.found.1 c.in_ok-value.ensures.read c.in_err-rest.ensures.free c.in_err-rest.ensures.refused)

pub returns-in_err-copy-clause-halts : goal.returns-in_err-copy-clause-halts
returns-in_err-copy-clause-halts c = let p = err_from_is_err_and c.from_residual-in_err-copy.result c.from_residual-in_err-copy.ensures.1 in
    rw p.1 (halts_for_memory _ _ p.2)

pub returns-clause-read : goal.returns-clause-read
returns-clause-read c = Steps.conn_done _ _ _ _ _ _ _ _ _ _ _ _ _ _ _ c.in_ok-inner.ensures.found.1 c.in_ok-name.ensures.found.1 c.in_ok-inner-2.ensures.found.1 c.in_ok-value.ensures.read c.in_ok-rest.ensures.found.1 c.make_conn.ensures c.in_ok-copy.ensures
