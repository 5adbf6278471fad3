use Rattle.std.proofs.lemmas.Result.{err_from_is_err_and}
use Rattle.verilog_items.proofs.DelaySteps as Steps
use Rattle.verilog_items.proofs.delay.past_delay.Goals as goal

pub returns-in_default-clause-read : goal.returns-in_default-clause-read
returns-in_default-clause-read c = Steps.delay_absent c.args.tokens.now c.in_default.ensures.free

pub returns-in_err-rest-clause-halts : goal.returns-in_err-rest-clause-halts
returns-in_err-rest-clause-halts c = let p = err_from_is_err_and c.from_residual.result c.from_residual.ensures.1 in
    rw (p.1, p.2) (Steps.delay_value_halts c.args.tokens.now _ _ _ c.in-Some.ensures.found.1 c.in_default-after_mark.ensures.free c.in_err-rest.ensures.free c.in_err-rest.ensures.refused)

pub returns-in_err-rest-2-clause-halts : goal.returns-in_err-rest-2-clause-halts
returns-in_err-rest-2-clause-halts c = let p = err_from_is_err_and c.from_residual-in_err-rest-2.result c.from_residual-in_err-rest-2.ensures.1 in
    rw (p.1, p.2) (rw (Steps.delay_listed c.args.tokens.now _ _ _ _ c.in-Some.ensures.found.1 c.in-Some-after_mark.ensures.found.1) (c.in_err-rest-2.ensures.halts c.in-Some-after_mark.ensures.found.0))

pub returns-clause-read : goal.returns-clause-read
returns-clause-read c = rw (Steps.delay_listed c.args.tokens.now _ _ _ _ c.in-Some.ensures.found.1 c.in-Some-after_mark.ensures.found.1) (c.in_ok-rest-2.ensures.read c.in-Some-after_mark.ensures.found.0)
