use Rattle.std.proofs.lemmas.Result.{err_from_is_err_and}
use Rattle.verilog_exprs.proofs.Steps.{halts_for_memory}
use Rattle.verilog_items.proofs.DeclSteps as Steps
use Rattle.verilog_items.proofs.decl.read_var.Goals as goal

pub returns-in_err-name-clause-halts : goal.returns-in_err-name-clause-halts
returns-in_err-name-clause-halts c = let p = err_from_is_err_and c.from_residual.result c.from_residual.ensures.1 in
    rw (p.1, p.2) (Steps.var_refused 255 c.args.tokens.now _ c.in_err-name.ensures.free c.in_err-name.ensures.refused)

pub returns-in_err-array-clause-halts : goal.returns-in_err-array-clause-halts
returns-in_err-array-clause-halts c = let p = err_from_is_err_and c.from_residual-in_err-array.result c.from_residual-in_err-array.ensures.1 in
    rw (p.1, p.2) (Steps.var_array_halts 255 c.args.tokens.now _ _ _ _ c.in_ok-name.ensures.found.1 c.in_err-array.ensures.halts)

pub returns-in_err-init-clause-halts : goal.returns-in_err-init-clause-halts
returns-in_err-init-clause-halts c = let p = err_from_is_err_and c.from_residual-in_err-init.result c.from_residual-in_err-init.ensures.1 in
    rw (p.1, p.2) (Steps.var_init_halts 255 c.args.tokens.now _ _ _ _ _ _ c.in_ok-name.ensures.found.1 c.in_ok-array.ensures.read c.in_err-init.ensures.halts)

pub returns-clause-read : goal.returns-clause-read
returns-clause-read c = Steps.var_read 255 _ _ _ c.args.tokens.now _ _ _ _ _ _ _ _ _ _ _ _ _ c.in_ok-name.ensures.found.1 c.in_ok-array.ensures.read c.in_ok-init.ensures.read c.in_ok-push.ensures.pushed c.decl_item.ensures c.make_decl-declared.ensures c.in_ok-range.ensures c.in_ok-copy.ensures

pub returns-in_err-range-clause-halts : goal.returns-in_err-range-clause-halts
returns-in_err-range-clause-halts c = let p = err_from_is_err_and c.from_residual-in_err-range.result c.from_residual-in_err-range.ensures.1 in
    rw p.1 (halts_for_memory _ _ p.2)

pub returns-in_err-copy-clause-halts : goal.returns-in_err-copy-clause-halts
returns-in_err-copy-clause-halts c = let p = err_from_is_err_and c.from_residual-in_err-copy.result c.from_residual-in_err-copy.ensures.1 in
    rw p.1 (halts_for_memory _ _ p.2)

pub returns-in_err-push-clause-halts : goal.returns-in_err-push-clause-halts
returns-in_err-push-clause-halts c = let p = err_from_is_err_and c.from_residual-in_err-push.result c.from_residual-in_err-push.ensures.1 in
    rw p.1 (halts_for_memory _ _ p.2)
