use Rattle.std.proofs.lemmas.Result.{err_from_is_err_and}
use Rattle.verilog_exprs.proofs.Steps.{halts_for_memory}
use Rattle.verilog_parse.proofs.ModuleSteps as Steps
use Rattle.verilog_parse.proofs.module.read_module.Goals as goal

pub returns-in_err-inner-clause-halts : goal.returns-in_err-inner-clause-halts
returns-in_err-inner-clause-halts c = let p = err_from_is_err_and c.from_residual.result c.from_residual.ensures.1 in
    rw (p.1, p.2) (Steps.module_word_halts 255 c.args.tokens.now _ c.in_err-inner.ensures.free c.in_err-inner.ensures.refused)

pub returns-in_err-name-clause-halts : goal.returns-in_err-name-clause-halts
returns-in_err-name-clause-halts c = let p = err_from_is_err_and c.from_residual-in_err-name.result c.from_residual-in_err-name.ensures.1 in
    rw (p.1, p.2) (Steps.module_name_halts 255 c.args.tokens.now _ _ _ c.in_ok-inner.ensures.found.1 c.in_err-name.ensures.free c.in_err-name.ensures.refused)

pub returns-in_err-params-clause-halts : goal.returns-in_err-params-clause-halts
returns-in_err-params-clause-halts c = let p = err_from_is_err_and c.from_residual-in_err-params.result c.from_residual-in_err-params.ensures.1 in
    rw (p.1, p.2) (Steps.module_header_halts 255 c.args.tokens.now _ _ _ _ (Steps.module_entered 255 c.args.tokens.now _ _ _ _ _ _ c.in_ok-inner.ensures.found.1 c.in_ok-name.ensures.found.1 c.place_of-place.ensures) c.in_err-params.ensures.halts)

pub returns-in_err-ports-clause-halts : goal.returns-in_err-ports-clause-halts
returns-in_err-ports-clause-halts c = let p = err_from_is_err_and c.from_residual-in_err-ports.result c.from_residual-in_err-ports.ensures.1 in
    rw (p.1, p.2) (Steps.module_ports_halt 255 c.args.tokens.now _ _ _ _ _ _ (Steps.module_entered 255 c.args.tokens.now _ _ _ _ _ _ c.in_ok-inner.ensures.found.1 c.in_ok-name.ensures.found.1 c.place_of-place.ensures) c.in_ok-params.ensures.read c.in_err-ports.ensures.halts)

pub returns-in_err-inner-2-clause-halts : goal.returns-in_err-inner-2-clause-halts
returns-in_err-inner-2-clause-halts c = let p = err_from_is_err_and c.from_residual-in_err-inner-2.result c.from_residual-in_err-inner-2.ensures.1 in
    rw (p.1, p.2) (Steps.module_mark_halts 255 c.args.tokens.now _ _ _ _ _ _ _ _ (Steps.module_entered 255 c.args.tokens.now _ _ _ _ _ _ c.in_ok-inner.ensures.found.1 c.in_ok-name.ensures.found.1 c.place_of-place.ensures) c.in_ok-params.ensures.read c.in_ok-ports.ensures.read c.in_err-inner-2.ensures.free c.in_err-inner-2.ensures.refused)

pub returns-in_err-items-clause-halts : goal.returns-in_err-items-clause-halts
returns-in_err-items-clause-halts c = let p = err_from_is_err_and c.from_residual-in_err-items.result c.from_residual-in_err-items.ensures.1 in
    rw (p.1, p.2) (Steps.module_items_halt 255 c.args.tokens.now _ _ _ _ _ _ _ _ _ _ (Steps.module_entered 255 c.args.tokens.now _ _ _ _ _ _ c.in_ok-inner.ensures.found.1 c.in_ok-name.ensures.found.1 c.place_of-place.ensures) c.in_ok-params.ensures.read c.in_ok-ports.ensures.read c.in_ok-inner-2.ensures.found.1 c.in_err-items.ensures.halts)

pub returns-in_err-name-2-clause-halts : goal.returns-in_err-name-2-clause-halts
returns-in_err-name-2-clause-halts c = let p = err_from_is_err_and c.from_residual-in_err-name-2.result c.from_residual-in_err-name-2.ensures.1 in
    rw p.1 (halts_for_memory _ _ p.2)

pub returns-clause-read : goal.returns-clause-read
returns-clause-read c = Steps.module_done 255 c.args.tokens.now _ _ _ _ _ _ _ _ _ _ _ _ _ (Steps.module_entered 255 c.args.tokens.now _ _ _ _ _ _ c.in_ok-inner.ensures.found.1 c.in_ok-name.ensures.found.1 c.place_of-place.ensures) c.in_ok-params.ensures.read c.in_ok-ports.ensures.read c.in_ok-inner-2.ensures.found.1 c.in_ok-items.ensures.read c.make_module.ensures c.in_ok-name-2.ensures
