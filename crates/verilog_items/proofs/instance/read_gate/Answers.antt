use Rattle.std.proofs.lemmas.Result.{err_from_is_err_and}
use Rattle.verilog_exprs.proofs.Steps.{halts_for_memory}
use Rattle.verilog_items.proofs.InstanceSteps as Steps
use Rattle.verilog_items.proofs.instance.read_gate.Goals as goal

pub returns-in_err-inner-clause-halts : goal.returns-in_err-inner-clause-halts
returns-in_err-inner-clause-halts c = let p = err_from_is_err_and c.from_residual.result c.from_residual.ensures.1 in
    rw (p.1, p.2) (Steps.gate_unopened 255 c.args.tokens.now _ _ c.without_name.ensures.found c.in_err-inner.ensures.free c.in_err-inner.ensures.refused)

pub returns-in_err-terminals-clause-halts : goal.returns-in_err-terminals-clause-halts
returns-in_err-terminals-clause-halts c = let p = err_from_is_err_and c.from_residual-in_err-terminals.result c.from_residual-in_err-terminals.ensures.1 in
    rw (p.1, p.2) (Steps.gate_terminals_halt 255 c.args.tokens.now _ _ _ _ c.without_name.ensures.found c.in_ok-inner.ensures.found.1 c.in_err-terminals.ensures.halts)

pub returns-in_err-rest-clause-halts : goal.returns-in_err-rest-clause-halts
returns-in_err-rest-clause-halts c = let p = err_from_is_err_and c.from_residual-in_err-rest.result c.from_residual-in_err-rest.ensures.1 in
    rw (p.1, p.2) (Steps.gate_open 255 c.args.tokens.now _ _ _ _ _ _ c.without_name.ensures.found c.in_ok-inner.ensures.found.1 c.in_ok-terminals.ensures.read c.in_err-rest.ensures.free c.in_err-rest.ensures.refused)

pub returns-in_err-push-clause-halts : goal.returns-in_err-push-clause-halts
returns-in_err-push-clause-halts c = let p = err_from_is_err_and c.from_residual-in_err-push.result c.from_residual-in_err-push.ensures.1 in
    rw p.1 (halts_for_memory _ _ p.2)

pub returns-clause-read : goal.returns-clause-read
returns-clause-read c = Steps.gate_read 255 _ _ c.args.tokens.now _ _ _ _ _ _ _ _ _ _ c.without_name.ensures.found c.in_ok-inner.ensures.found.1 c.in_ok-terminals.ensures.read c.in_ok-rest.ensures.found.1 c.in_ok-push.ensures.pushed c.gate_item.ensures
