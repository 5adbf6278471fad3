use Rattle.std.proofs.lemmas.Result.{err_from_is_err_and}
use Rattle.verilog_exprs.proofs.Steps.{halts_for_memory}
use Rattle.verilog_parse.proofs.EventSteps as Steps
use Rattle.verilog_parse.proofs.event.read_edge.Goals as goal

pub returns-in_err-name-clause-halts : goal.returns-in_err-name-clause-halts
returns-in_err-name-clause-halts c = let p = err_from_is_err_and c.from_residual.result c.from_residual.ensures.1 in
    rw (p.1, p.2) (Steps.edge_refused c.args.tokens.now c.edge_kind-kind.result.0 c.edge_kind-kind.result.1.now _ c.edge_kind-kind.ensures.found c.in_err-name.ensures.free c.in_err-name.ensures.refused)

pub returns-in_err-name-2-clause-halts : goal.returns-in_err-name-2-clause-halts
returns-in_err-name-2-clause-halts c = let p = err_from_is_err_and c.from_residual-in_err-name-2.result c.from_residual-in_err-name-2.ensures.1 in
    rw p.1 (halts_for_memory _ _ p.2)

pub returns-in_err-push-clause-halts : goal.returns-in_err-push-clause-halts
returns-in_err-push-clause-halts c = let p = err_from_is_err_and c.from_residual-in_err-push.result c.from_residual-in_err-push.ensures.1 in
    rw p.1 (halts_for_memory _ _ p.2)

pub returns-clause-read : goal.returns-clause-read
returns-clause-read c = Steps.edge_read c.args.tokens.now c.edge_kind-kind.result.0 c.edge_kind-kind.result.1.now _ _ _ _ _ _ c.edge_kind-kind.ensures.found c.in_ok-name.ensures.found.1 c.in_ok-push.ensures.pushed c.in_ok-name-2.ensures
