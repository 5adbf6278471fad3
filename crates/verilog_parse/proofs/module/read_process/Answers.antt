use Rattle.std.proofs.lemmas.Result.{err_from_is_err_and}
use Rattle.verilog_exprs.proofs.Steps.{halts_for_memory}
use Rattle.verilog_parse.proofs.ModuleSteps as Steps
use Rattle.verilog_parse.proofs.module.read_process.Goals as goal

pub returns-in_err-event-clause-halts : goal.returns-in_err-event-clause-halts
returns-in_err-event-clause-halts c = let p = err_from_is_err_and c.from_residual.result c.from_residual.ensures.1 in
    rw (p.1, p.2) (Steps.always_event_halts 255 c.args.tokens.now _ _ _ c.in-Some.ensures.found.1 c.in_err-event.ensures.halts)

pub returns-in_err-body-clause-halts : goal.returns-in_err-body-clause-halts
returns-in_err-body-clause-halts c = let p = err_from_is_err_and c.from_residual-in_err-body.result c.from_residual-in_err-body.ensures.1 in
    rw (p.1, p.2) (Steps.always_body_halts 255 c.args.tokens.now _ _ _ _ _ c.in-Some.ensures.found.1 c.in_ok-event.ensures.read c.in_err-body.ensures.halts)

pub returns-in_err-push-clause-halts : goal.returns-in_err-push-clause-halts
returns-in_err-push-clause-halts c = let p = err_from_is_err_and c.from_residual-in_err-push.result c.from_residual-in_err-push.ensures.1 in
    rw p.1 (halts_for_memory _ _ p.2)

pub returns-in-Some-clause-read : goal.returns-in-Some-clause-read
returns-in-Some-clause-read c = Steps.always_read 255 c.args.tokens.now _ _ _ _ _ _ _ _ _ _ c.in-Some.ensures.found.1 c.in_ok-event.ensures.read c.in_ok-body.ensures.read c.in_ok-push.ensures.pushed c.always_item.ensures c.place_of-place.ensures

pub returns-in_err-inner-clause-halts : goal.returns-in_err-inner-clause-halts
returns-in_err-inner-clause-halts c = let p = err_from_is_err_and c.from_residual-in_err-inner.result c.from_residual-in_err-inner.ensures.1 in
    rw (p.1, p.2) (Steps.process_refused 255 c.args.tokens.now _ c.in_default.ensures.free c.in_err-inner.ensures.free c.in_err-inner.ensures.refused)

pub returns-in_err-body-2-clause-halts : goal.returns-in_err-body-2-clause-halts
returns-in_err-body-2-clause-halts c = let p = err_from_is_err_and c.from_residual-in_err-body-2.result c.from_residual-in_err-body-2.ensures.1 in
    rw (p.1, p.2) (Steps.initial_body_halts 255 c.args.tokens.now _ _ _ c.in_default.ensures.free c.in_ok-inner.ensures.found.1 c.in_err-body-2.ensures.halts)

pub returns-in_err-push-2-clause-halts : goal.returns-in_err-push-2-clause-halts
returns-in_err-push-2-clause-halts c = let p = err_from_is_err_and c.from_residual-in_err-push-2.result c.from_residual-in_err-push-2.ensures.1 in
    rw p.1 (halts_for_memory _ _ p.2)

pub returns-clause-read : goal.returns-clause-read
returns-clause-read c = Steps.initial_read 255 c.args.tokens.now _ _ _ _ _ _ _ _ c.in_default.ensures.free c.in_ok-inner.ensures.found.1 c.in_ok-body-2.ensures.read c.in_ok-push-2.ensures.pushed c.initial_item.ensures c.place_of-place.ensures
