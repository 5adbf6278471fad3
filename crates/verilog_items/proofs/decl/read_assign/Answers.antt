use Rattle.std.proofs.lemmas.Result.{err_from_is_err_and}
use Rattle.verilog_exprs.proofs.Steps.{halts_for_memory}
use Rattle.verilog_items.proofs.DeclSteps as Steps
use Rattle.verilog_items.proofs.decl.read_assign.Goals as goal

pub returns-in_err-target-clause-halts : goal.returns-in_err-target-clause-halts
returns-in_err-target-clause-halts c = let p = err_from_is_err_and c.from_residual.result c.from_residual.ensures.1 in
    rw (p.1, p.2) (Steps.driven_target_halts _ _ _ c.in_err-target.ensures.halts)

pub returns-in_err-inner-clause-halts : goal.returns-in_err-inner-clause-halts
returns-in_err-inner-clause-halts c = let p = err_from_is_err_and c.from_residual-in_err-inner.result c.from_residual-in_err-inner.ensures.1 in
    rw (p.1, p.2) (Steps.driven_equals_halts _ _ _ _ _ c.in_ok-target.ensures.read c.in_err-inner.ensures.free c.in_err-inner.ensures.refused)

pub returns-in_err-value-clause-halts : goal.returns-in_err-value-clause-halts
returns-in_err-value-clause-halts c = let p = err_from_is_err_and c.from_residual-in_err-value.result c.from_residual-in_err-value.ensures.1 in
    rw (p.1, p.2) (Steps.driven_value_halts _ _ _ _ _ _ _ c.in_ok-target.ensures.read c.in_ok-inner.ensures.found.1 c.in_err-value.ensures.halts)

pub returns-clause-read : goal.returns-clause-read
returns-clause-read c = Steps.driven_read _ _ _ _ _ _ _ _ _ _ _ _ c.in_ok-target.ensures.read c.in_ok-inner.ensures.found.1 c.in_ok-value.ensures.read c.in_ok-push.ensures.pushed c.assign_item.ensures

pub returns-in_err-push-clause-halts : goal.returns-in_err-push-clause-halts
returns-in_err-push-clause-halts c = let p = err_from_is_err_and c.from_residual-in_err-push.result c.from_residual-in_err-push.ensures.1 in
    rw p.1 (halts_for_memory _ _ p.2)
