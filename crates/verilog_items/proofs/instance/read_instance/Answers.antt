use Rattle.std.proofs.Common.{◌∙◌}
use Rattle.std.proofs.lemmas.Result.{err_from_is_err_and}
use Rattle.verilog_exprs.proofs.Steps.{halts_for_memory}
use Rattle.verilog_reading.specs.SourceTree.{conns_of}
use Rattle.verilog_items.proofs.InstanceSteps as Steps
use Rattle.verilog_items.proofs.instance.read_instance.Goals as goal

pub returns-in_err-name-clause-halts : goal.returns-in_err-name-clause-halts
returns-in_err-name-clause-halts c = let p = err_from_is_err_and c.from_residual.result c.from_residual.ensures.1 in
    rw (p.1, p.2) (Steps.placed_refused 255 c.args.tokens.now _ c.in_err-name.ensures.free c.in_err-name.ensures.refused)

pub returns-in_err-ports-clause-halts : goal.returns-in_err-ports-clause-halts
returns-in_err-ports-clause-halts c = let p = err_from_is_err_and c.from_residual-in_err-ports.result c.from_residual-in_err-ports.ensures.1 in
    rw (p.1, p.2) (Steps.placed_halts 255 c.args.tokens.now _ _ _ _ c.in_ok-name.ensures.found.1 c.in_err-ports.ensures.halts)

pub returns-in_err-child-clause-halts : goal.returns-in_err-child-clause-halts
returns-in_err-child-clause-halts c = let p = err_from_is_err_and c.from_residual-in_err-child.result c.from_residual-in_err-child.ensures.1 in
    rw p.1 (halts_for_memory _ _ p.2)

pub returns-in_err-params-clause-halts : goal.returns-in_err-params-clause-halts
returns-in_err-params-clause-halts c = let p = err_from_is_err_and c.from_residual-in_err-params.result c.from_residual-in_err-params.ensures.1 in
    rw p.1 (halts_for_memory _ _ p.2)

pub returns-in_err-copy-clause-halts : goal.returns-in_err-copy-clause-halts
returns-in_err-copy-clause-halts c = let p = err_from_is_err_and c.from_residual-in_err-copy.result c.from_residual-in_err-copy.ensures.1 in
    rw p.1 (halts_for_memory _ _ p.2)

pub returns-in_err-push-clause-halts : goal.returns-in_err-push-clause-halts
returns-in_err-push-clause-halts c = let p = err_from_is_err_and c.from_residual-in_err-push.result c.from_residual-in_err-push.ensures.1 in
    rw p.1 (halts_for_memory _ _ p.2)

pub returns-clause-read : goal.returns-clause-read
returns-clause-read c = Steps.placed_read 255 c.args.place c.args.child.now (conns_of c.args.params.now) c.args.tokens.now _ _ _ _ _ _ _ _ _ _ _ c.in_ok-name.ensures.found.1 c.in_ok-ports.ensures.read c.in_ok-push.ensures.pushed c.instance_item-item.ensures (c.child.view_is ∙ c.in_ok-child.ensures) c.in_ok-params.ensures c.in_ok-copy.ensures
