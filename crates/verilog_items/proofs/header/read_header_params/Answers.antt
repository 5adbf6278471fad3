use Rattle.std.proofs.Common.{rules}
use Rattle.std.proofs.lemmas.Result.{err_from_is_err_and}
use Rattle.verilog_items.proofs.HeaderSteps as Steps
use Rattle.verilog_items.proofs.header.read_header_params.Goals as goal

pub returns-in_default-clause-read : goal.returns-in_default-clause-read
returns-in_default-clause-read c = Steps.header_none 255 c.args.tokens.now _ c.in_default.ensures.free (search rules)

pub returns-in_err-inner-clause-halts : goal.returns-in_err-inner-clause-halts
returns-in_err-inner-clause-halts c = let p = err_from_is_err_and c.from_residual.result c.from_residual.ensures.1 in
    rw (p.1, p.2) (Steps.header_unopened 255 c.args.tokens.now _ _ _ c.in-Some.ensures.found.1 c.in_err-inner.ensures.free c.in_err-inner.ensures.refused)

pub returns-clause-read : goal.returns-clause-read
returns-clause-read c = rw (Steps.header_is 255 c.args.tokens.now _ _ _ _ c.in-Some.ensures.found.1 c.in_ok-inner.ensures.found.1) c.read_pdecls.ensures.read

pub returns-clause-halts : goal.returns-clause-halts
returns-clause-halts c = rw (Steps.header_is 255 c.args.tokens.now _ _ _ _ c.in-Some.ensures.found.1 c.in_ok-inner.ensures.found.1) c.read_pdecls.ensures.halts
