use Rattle.std.proofs.lemmas.Result.{err_from_is_err_and}
use Rattle.verilog_exprs.proofs.Steps.{halts_for_memory}
use Rattle.verilog_items.specs.Forms.{shape_of}
use Rattle.verilog_items.proofs.HeaderSteps as Steps
use Rattle.verilog_items.proofs.header.read_entry.Goals as goal

pub returns-in_err-long-clause-halts : goal.returns-in_err-long-clause-halts
returns-in_err-long-clause-halts c = let p = err_from_is_err_and c.from_residual.result c.from_residual.ensures.1 in
    rw (p.1, p.2) (Steps.long_entry_halts 255 c.args.tokens.now _ c.in_default.ensures.free c.in_err-long.ensures.halts)

pub returns-in_default-clause-read : goal.returns-in_default-clause-read
returns-in_default-clause-read c = Steps.long_entry_put 255 _ c.args.tokens.now _ _ _ _ c.in_default.ensures.free (c.in_ok-long.ensures.read (shape_of c.args.before))

pub returns-in_err-init-clause-halts : goal.returns-in_err-init-clause-halts
returns-in_err-init-clause-halts c = let p = err_from_is_err_and c.from_residual-in_err-init.result c.from_residual-in_err-init.ensures.1 in
    rw (p.1, p.2) (Steps.short_entry_halts 255 c.args.tokens.now _ _ _ _ c.in-Some.ensures.found.1 c.in_err-init.ensures.halts)

pub returns-in_err-push_port-clause-halts : goal.returns-in_err-push_port-clause-halts
returns-in_err-push_port-clause-halts c = let p = err_from_is_err_and c.from_residual-in_err-push_port.result c.from_residual-in_err-push_port.ensures.1 in
    rw p.1 (halts_for_memory _ _ p.2)

pub returns-clause-read : goal.returns-clause-read
returns-clause-read c = Steps.short_entry_read 255 _ c.args.tokens.now _ _ _ _ _ _ _ c.in-Some.ensures.found.1 c.in_ok-init.ensures.read c.in_ok-push_port.ensures
