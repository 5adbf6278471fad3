use Rattle.std.proofs.lemmas.Result.{err_from_is_err_and}
use Rattle.verilog_exprs.proofs.Steps.{halts_for_memory}
use Rattle.verilog_items.proofs.HeaderSteps as Steps
use Rattle.verilog_items.proofs.header.read_adecl.Goals as goal

pub returns-in_default-clause-halts : goal.returns-in_default-clause-halts
returns-in_default-clause-halts c = Steps.adecl_refused 255 c.args.tokens.now _ c.in_default.ensures.free c.refused.ensures

pub returns-in_err-range-clause-halts : goal.returns-in_err-range-clause-halts
returns-in_err-range-clause-halts c = let p = err_from_is_err_and c.from_residual.result c.from_residual.ensures.1 in
    rw (p.1, p.2) (Steps.adecl_range_halts 255 c.args.tokens.now _ _ _ c.in-Some.ensures.found c.in_err-range.ensures.halts)

pub returns-in_err-name-clause-halts : goal.returns-in_err-name-clause-halts
returns-in_err-name-clause-halts c = let p = err_from_is_err_and c.from_residual-in_err-name.result c.from_residual-in_err-name.ensures.1 in
    rw (p.1, p.2) (Steps.adecl_name_halts 255 c.args.tokens.now _ _ _ _ _ c.in-Some.ensures.found c.in_ok-range.ensures.read c.in_err-name.ensures.free c.in_err-name.ensures.refused)

pub returns-in_err-init-clause-halts : goal.returns-in_err-init-clause-halts
returns-in_err-init-clause-halts c = let p = err_from_is_err_and c.from_residual-in_err-init.result c.from_residual-in_err-init.ensures.1 in
    rw (p.1, p.2) (Steps.adecl_start_halts 255 c.args.tokens.now _ _ _ _ _ _ _ _ c.in-Some.ensures.found c.in_ok-range.ensures.read c.in_ok-name.ensures.found.1 c.in_err-init.ensures.halts)

pub returns-in_err-push_port-clause-halts : goal.returns-in_err-push_port-clause-halts
returns-in_err-push_port-clause-halts c = let p = err_from_is_err_and c.from_residual-in_err-push_port.result c.from_residual-in_err-push_port.ensures.1 in
    rw p.1 (halts_for_memory _ _ p.2)

pub returns-clause-read : goal.returns-clause-read
returns-clause-read c = Steps.adecl_read_at 255 c.args.tokens.now _ _ _ _ _ _ _ _ _ _ _ _ c.in-Some.ensures.found c.in_ok-range.ensures.read c.in_ok-name.ensures.found.1 c.in_ok-init.ensures.read c.make_shape-shape.ensures c.in_ok-push_port.ensures
