use Rattle.std.proofs.Common.{arith, rules}
use Rattle.std.proofs.lemmas.Result.{err_from_is_err_and}
use Rattle.verilog_exprs.proofs.Steps.{halts_for_memory}
use Rattle.verilog_stmts.proofs.LabelSteps as Steps
use Rattle.verilog_stmts.proofs.label.read_labels.Goals as goal

pub returns-in_err-first-clause-halts : goal.returns-in_err-first-clause-halts
returns-in_err-first-clause-halts c = let p = err_from_is_err_and c.from_residual.result c.from_residual.ensures.1 in
    rw (p.1, p.2) (Steps.labels_halt _ _ _ _ c.in_err-first.ensures.halts)

pub returns-in_err-push-clause-halts : goal.returns-in_err-push-clause-halts
returns-in_err-push-clause-halts c = let p = err_from_is_err_and c.from_residual-in_err-push.result c.from_residual-in_err-push.ensures.1 in
    rw p.1 (halts_for_memory _ _ p.2)

pub returns-in_err-next-clause-halts : goal.returns-in_err-next-clause-halts
returns-in_err-next-clause-halts c = let p = err_from_is_err_and c.from_residual-in_err-next.result c.from_residual-in_err-next.ensures.1 in
    rw (p.1, p.2) (Steps.labels_stop _ _ _ _ _ _ _ _ c.loop-after.invariant.lists c.in-Some.ensures.found.1 c.in_err-next.ensures.halts)

pub returns-in_err-push-2-clause-halts : goal.returns-in_err-push-2-clause-halts
returns-in_err-push-2-clause-halts c = let p = err_from_is_err_and c.from_residual-in_err-push-2.result c.from_residual-in_err-push-2.ensures.1 in
    rw p.1 (halts_for_memory _ _ p.2)

pub loop-after-preserved : goal.loop-after-preserved
loop-after-preserved c = record {
  lists = Steps.labels_more _ _ _ _ _ _ _ _ _ _ c.loop-after.invariant.lists c.in-Some.ensures.found.1 c.in_ok-next.ensures.read c.in_ok-push-2.ensures.pushed;
  shorter = omega (arith, c.in_ok-next.ensures.shorter, c.in-Some.ensures.shorter, c.loop-after.invariant.shorter);
}

pub loop-after-init : goal.loop-after-init
loop-after-init c = record {
  lists = Steps.labels_first _ _ _ _ _ _ c.in_ok-first.ensures.read (search rules);
  shorter = omega (arith, c.in_ok-first.ensures.shorter);
}

pub returns-clause-read : goal.returns-clause-read
returns-clause-read c = Steps.labels_end _ _ _ _ _ c.loop-after.invariant.lists c.in_default.ensures.free
