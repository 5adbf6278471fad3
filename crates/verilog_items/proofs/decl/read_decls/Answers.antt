use Rattle.std.proofs.lemmas.Result.{err_from_is_err_and}
use Rattle.verilog_items.proofs.DeclSteps as Steps
use Rattle.verilog_items.proofs.decl.read_decls.Goals as goal

pub returns-in_err-range-clause-halts : goal.returns-in_err-range-clause-halts
returns-in_err-range-clause-halts c = let p = err_from_is_err_and c.from_residual.result c.from_residual.ensures.1 in
    rw (p.1, p.2) (Steps.decls_range_halts 255 c.args.place c.args.kind c.args.tokens.now _ c.in_err-range.ensures.halts)

pub returns-in_err-rest-clause-halts : goal.returns-in_err-rest-clause-halts
returns-in_err-rest-clause-halts c = let p = err_from_is_err_and c.from_residual-in_err-rest.result c.from_residual-in_err-rest.ensures.1 in
    rw (p.1, p.2) (Steps.decls_delay_halts 255 c.args.place c.args.kind c.args.tokens.now _ _ _ c.in_ok-range.ensures.read c.in_err-rest.ensures.halts)

pub returns-clause-read : goal.returns-clause-read
returns-clause-read c = rw (Steps.decls_are 255 c.args.place c.args.kind c.args.tokens.now _ _ _ c.in_ok-range.ensures.read c.in_ok-rest.ensures.read) c.read_vars.ensures.read

pub returns-clause-halts : goal.returns-clause-halts
returns-clause-halts c = rw (Steps.decls_are 255 c.args.place c.args.kind c.args.tokens.now _ _ _ c.in_ok-range.ensures.read c.in_ok-rest.ensures.read) c.read_vars.ensures.halts
