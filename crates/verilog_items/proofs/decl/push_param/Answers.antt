use Rattle.std.proofs.lemmas.Result.{err_from_is_err_and}
use Rattle.verilog_exprs.proofs.Steps.{halts_for_memory}
use Rattle.verilog_items.proofs.DeclSteps as Steps
use Rattle.verilog_items.proofs.decl.push_param.Goals as goal

pub returns-clause-read : goal.returns-clause-read
returns-clause-read c = Steps.param_pushed _ _ _ _ _ _ _ _ _ c.in_ok-param.ensures.read c.in_ok-push.ensures.pushed c.param_item.ensures

pub returns-in_err-param-clause-halts : goal.returns-in_err-param-clause-halts
returns-in_err-param-clause-halts c = let p = err_from_is_err_and c.from_residual.result c.from_residual.ensures.1 in
    rw (p.1, p.2) c.in_err-param.ensures.halts

pub returns-in_err-push-clause-halts : goal.returns-in_err-push-clause-halts
returns-in_err-push-clause-halts c = let p = err_from_is_err_and c.from_residual-in_err-push.result c.from_residual-in_err-push.ensures.1 in
    rw p.1 (halts_for_memory _ _ p.2)
