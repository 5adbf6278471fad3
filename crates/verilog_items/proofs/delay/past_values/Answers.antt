use Rattle.std.proofs.lemmas.Result.{err_from_is_err_and}
use Rattle.verilog_items.proofs.DelaySteps as Steps
use Rattle.verilog_items.proofs.delay.past_values.Goals as goal

pub returns-in_err-first-clause-halts : goal.returns-in_err-first-clause-halts
returns-in_err-first-clause-halts c = let p = err_from_is_err_and c.from_residual.result c.from_residual.ensures.1 in
    rw (p.1, p.2) (Steps.first_halts c.args.tokens.now _ c.in_err-first.ensures.free c.in_err-first.ensures.refused)

pub returns-in_err-rest-clause-halts : goal.returns-in_err-rest-clause-halts
returns-in_err-rest-clause-halts c = let p = err_from_is_err_and c.from_residual-in_err-rest.result c.from_residual-in_err-rest.ensures.1 in
    rw (p.1, p.2) (Steps.only_halts c.args.tokens.now _ _ _ c.in_ok-first.ensures.found.1 c.in_default.ensures.free c.in_err-rest.ensures.free c.in_err-rest.ensures.refused)

pub returns-in_err-second-clause-halts : goal.returns-in_err-second-clause-halts
returns-in_err-second-clause-halts c = let p = err_from_is_err_and c.from_residual-in_err-second.result c.from_residual-in_err-second.ensures.1 in
    rw (p.1, p.2) (Steps.second_halts c.args.tokens.now _ _ _ _ _ c.in_ok-first.ensures.found.1 c.in-Some.ensures.found.1 c.in_err-second.ensures.free c.in_err-second.ensures.refused)

pub returns-in_err-rest-2-clause-halts : goal.returns-in_err-rest-2-clause-halts
returns-in_err-rest-2-clause-halts c = let p = err_from_is_err_and c.from_residual-in_err-rest-2.result c.from_residual-in_err-rest-2.ensures.1 in
    rw (p.1, p.2) (Steps.both_halt c.args.tokens.now _ _ _ _ _ _ _ c.in_ok-first.ensures.found.1 c.in-Some.ensures.found.1 c.in_ok-second.ensures.found.1 c.in_err-rest-2.ensures.free c.in_err-rest-2.ensures.refused)

pub returns-clause-read : goal.returns-clause-read
returns-clause-read c = Steps.both_end c.args.tokens.now _ _ _ _ _ _ _ _ c.in_ok-first.ensures.found.1 c.in-Some.ensures.found.1 c.in_ok-second.ensures.found.1 c.in_ok-rest-2.ensures.found.1
