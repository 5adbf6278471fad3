use Rattle.std.proofs.lemmas.Result.{err_from_is_err_and}
use Rattle.verilog_exprs.proofs.Steps.{halts_for_memory}
use Rattle.verilog_items.proofs.HeaderSteps as Steps
use Rattle.verilog_items.proofs.header.read_long.Goals as goal

pub returns-in_err-range-clause-halts : goal.returns-in_err-range-clause-halts
returns-in_err-range-clause-halts c = let p = err_from_is_err_and c.from_residual.result c.from_residual.ensures.1 in
    rw (p.1, p.2) (Steps.long_range_halts 255 c.args.local c.args.tokens.now _ c.in_err-range.ensures.halts)

pub returns-in_err-param-clause-halts : goal.returns-in_err-param-clause-halts
returns-in_err-param-clause-halts c = let p = err_from_is_err_and c.from_residual-in_err-param.result c.from_residual-in_err-param.ensures.1 in
    rw (p.1, p.2) (Steps.long_setting_halts 255 c.args.local c.args.tokens.now _ _ _ c.in_ok-range.ensures.read c.in_err-param.ensures.halts)

pub returns-in_err-push-clause-halts : goal.returns-in_err-push-clause-halts
returns-in_err-push-clause-halts c = let p = err_from_is_err_and c.from_residual-in_err-push.result c.from_residual-in_err-push.ensures.1 in
    rw p.1 (halts_for_memory _ _ p.2)

pub returns-clause-read : goal.returns-clause-read
returns-clause-read c = Steps.long_read 255 c.args.local c.args.tokens.now _ _ _ _ _ _ _ c.in_ok-range.ensures.read c.in_ok-param.ensures.read c.in_ok-push.ensures.pushed c.make_form.ensures
