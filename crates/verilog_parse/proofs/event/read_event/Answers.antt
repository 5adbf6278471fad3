use Rattle.std.proofs.lemmas.Result.{err_from_is_err_and}
use Rattle.verilog_parse.proofs.EventSteps as Steps
use Rattle.verilog_parse.proofs.event.read_event.Goals as goal

pub returns-in_err-inner-clause-halts : goal.returns-in_err-inner-clause-halts
returns-in_err-inner-clause-halts c = let p = err_from_is_err_and c.from_residual.result c.from_residual.ensures.1 in
    rw (p.1, p.2) (Steps.event_refused c.args.tokens.now _ c.in_err-inner.ensures.free c.in_err-inner.ensures.refused)

pub returns-in-Some-clause-read : goal.returns-in-Some-clause-read
returns-in-Some-clause-read c = Steps.event_star c.args.tokens.now _ _ _ _ c.in_ok-inner.ensures.found.1 c.in-Some.ensures.found.1

pub returns-in_err-inner-2-clause-halts : goal.returns-in_err-inner-2-clause-halts
returns-in_err-inner-2-clause-halts c = let p = err_from_is_err_and c.from_residual-in_err-inner-2.result c.from_residual-in_err-inner-2.ensures.1 in
    rw (p.1, p.2) (Steps.event_unopened c.args.tokens.now _ _ _ c.in_ok-inner.ensures.found.1 c.in_default.ensures.free c.in_err-inner-2.ensures.free c.in_err-inner-2.ensures.refused)

pub returns-clause-read : goal.returns-clause-read
returns-clause-read c = rw (Steps.event_is c.args.tokens.now _ _ _ _ c.in_ok-inner.ensures.found.1 c.in_default.ensures.free c.in_ok-inner-2.ensures.found.1) c.read_in_parens.ensures.read

pub returns-clause-halts : goal.returns-clause-halts
returns-clause-halts c = rw (Steps.event_is c.args.tokens.now _ _ _ _ c.in_ok-inner.ensures.found.1 c.in_default.ensures.free c.in_ok-inner-2.ensures.found.1) c.read_in_parens.ensures.halts
