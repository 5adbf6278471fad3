use Rattle.std.proofs.lemmas.Result.{err_from_is_err_and}
use Rattle.verilog_exprs.proofs.Steps.{halts_for_memory}
use Rattle.verilog_items.specs.Forms.{form_of}
use Rattle.verilog_items.proofs.HeaderSteps as Steps
use Rattle.verilog_items.proofs.header.read_pdecl.Goals as goal

pub returns-in_err-long-clause-halts : goal.returns-in_err-long-clause-halts
returns-in_err-long-clause-halts c = let p = err_from_is_err_and c.from_residual.result c.from_residual.ensures.1 in
    rw (p.1, p.2) (Steps.long_halts 255 c.args.tokens.now c.in-Some.local c.in-Some.inner.now _ c.in-Some.ensures.entry c.in_err-long.ensures.halts)

pub returns-in-Some-clause-read : goal.returns-in-Some-clause-read
returns-in-Some-clause-read c = Steps.long_put 255 _ c.args.tokens.now c.in-Some.local c.in-Some.inner.now _ _ _ _ c.in-Some.ensures.entry (c.in_ok-long.ensures.read (form_of c.args.before))

pub returns-in_err-param-clause-halts : goal.returns-in_err-param-clause-halts
returns-in_err-param-clause-halts c = let p = err_from_is_err_and c.from_residual-in_err-param.result c.from_residual-in_err-param.ensures.1 in
    rw (p.1, p.2) (Steps.short_halts 255 c.args.tokens.now _ c.in_default.ensures.free c.in_err-param.ensures.halts)

pub returns-in_err-push-clause-halts : goal.returns-in_err-push-clause-halts
returns-in_err-push-clause-halts c = let p = err_from_is_err_and c.from_residual-in_err-push.result c.from_residual-in_err-push.ensures.1 in
    rw p.1 (halts_for_memory _ _ p.2)

pub returns-clause-read : goal.returns-clause-read
returns-clause-read c = Steps.short_read 255 _ c.args.tokens.now _ _ _ _ c.in_default.ensures.free c.in_ok-param.ensures.read c.in_ok-push.ensures.pushed
