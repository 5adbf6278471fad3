use Rattle.std.proofs.lemmas.Result.{err_from_is_err_and}
use Rattle.verilog_parse.proofs.EventSteps as Steps
use Rattle.verilog_parse.proofs.event.read_in_parens.Goals as goal

pub returns-in_default-clause-read : goal.returns-in_default-clause-read
returns-in_default-clause-read c = rw (Steps.parens_edges c.args.tokens.now c.in_default.ensures.free) c.read_edges.ensures.read

pub returns-in_default-clause-halts : goal.returns-in_default-clause-halts
returns-in_default-clause-halts c = rw (Steps.parens_edges c.args.tokens.now c.in_default.ensures.free) c.read_edges.ensures.halts

pub returns-in_err-rest-clause-halts : goal.returns-in_err-rest-clause-halts
returns-in_err-rest-clause-halts c = let p = err_from_is_err_and c.from_residual.result c.from_residual.ensures.1 in
    rw (p.1, p.2) (Steps.parens_open c.args.tokens.now _ _ _ c.in-Some.ensures.found.1 c.in_err-rest.ensures.free c.in_err-rest.ensures.refused)

pub returns-clause-read : goal.returns-clause-read
returns-clause-read c = Steps.parens_done c.args.tokens.now _ _ _ _ c.in-Some.ensures.found.1 c.in_ok-rest.ensures.found.1
