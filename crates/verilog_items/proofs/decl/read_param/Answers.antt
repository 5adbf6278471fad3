use Rattle.std.proofs.lemmas.Result.{err_from_is_err_and}
use Rattle.verilog_exprs.proofs.Steps.{halts_for_memory}
use Rattle.verilog_items.proofs.DeclSteps as Steps
use Rattle.verilog_items.proofs.decl.read_param.Goals as goal

pub returns-in_err-name-clause-halts : goal.returns-in_err-name-clause-halts
returns-in_err-name-clause-halts c = let p = err_from_is_err_and c.from_residual.result c.from_residual.ensures.1 in
    rw (p.1, p.2) (Steps.setting_refused _ _ _ c.in_err-name.ensures.free c.in_err-name.ensures.refused)

pub returns-in_err-inner-clause-halts : goal.returns-in_err-inner-clause-halts
returns-in_err-inner-clause-halts c = let p = err_from_is_err_and c.from_residual-in_err-inner.result c.from_residual-in_err-inner.ensures.1 in
    rw (p.1, p.2) (Steps.setting_equals_halts _ _ _ _ _ _ c.in_ok-name.ensures.found.1 c.in_err-inner.ensures.free c.in_err-inner.ensures.refused)

pub returns-in_err-value-clause-halts : goal.returns-in_err-value-clause-halts
returns-in_err-value-clause-halts c = let p = err_from_is_err_and c.from_residual-in_err-value.result c.from_residual-in_err-value.ensures.1 in
    rw (p.1, p.2) (Steps.setting_value_halts _ _ _ _ _ _ _ _ c.in_ok-name.ensures.found.1 c.in_ok-inner.ensures.found.1 c.in_err-value.ensures.halts)

pub returns-clause-read : goal.returns-clause-read
returns-clause-read c = Steps.param_read _ _ _ _ _ _ _ _ _ _ _ _ _ _ c.in_ok-name.ensures.found.1 c.in_ok-inner.ensures.found.1 c.in_ok-value.ensures.read c.make_param.ensures c.in_ok-range.ensures c.in_ok-copy.ensures

pub returns-in_err-range-clause-halts : goal.returns-in_err-range-clause-halts
returns-in_err-range-clause-halts c = let p = err_from_is_err_and c.from_residual-in_err-range.result c.from_residual-in_err-range.ensures.1 in
    rw p.1 (halts_for_memory _ _ p.2)

pub returns-in_err-copy-clause-halts : goal.returns-in_err-copy-clause-halts
returns-in_err-copy-clause-halts c = let p = err_from_is_err_and c.from_residual-in_err-copy.result c.from_residual-in_err-copy.ensures.1 in
    rw p.1 (halts_for_memory _ _ p.2)
