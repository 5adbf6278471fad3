use Rattle.std.proofs.Common.{arith, rules}
use Rattle.std.proofs.lemmas.Result.{err_from_is_err_and}
use Rattle.verilog_exprs.proofs.Steps.{halts_for_memory}
use Rattle.verilog_stmts.proofs.TargetSteps as Steps
use Rattle.verilog_stmts.proofs.target.+target.Goals as goal

pub read_target-returns-in-Some-clause-read : goal.read_target-returns-in-Some-clause-read
read_target-returns-in-Some-clause-read t c = rw (Steps.target_named _ _ _ _ _ c.in-Some.ensures.found.1) c.read_named.ensures.read

pub read_target-returns-in-Some-clause-halts : goal.read_target-returns-in-Some-clause-halts
read_target-returns-in-Some-clause-halts t c = rw (Steps.target_named _ _ _ _ _ c.in-Some.ensures.found.1) c.read_named.ensures.halts

pub read_target-returns-in_err-inner-clause-halts : goal.read_target-returns-in_err-inner-clause-halts
read_target-returns-in_err-inner-clause-halts t c = let p = err_from_is_err_and c.from_residual.result c.from_residual.ensures.1 in
    rw (p.1, p.2) (Steps.target_refused _ _ _ c.in_default.ensures.free c.in_err-inner.ensures.free c.in_err-inner.ensures.refused)

pub read_target-returns-in_err-below-clause-halts : goal.read_target-returns-in_err-below-clause-halts
read_target-returns-in_err-below-clause-halts t c = let p = err_from_is_err_and c.from_residual-in_err-below.result c.from_residual-in_err-below.ensures.1 in
    rw (p.1, p.2) (Steps.target_deep _ _ _ _ _ c.in_default.ensures.free c.in_ok-inner.ensures.found.1 c.in_err-below.ensures.high c.in_err-below.ensures.refused)

pub read_target-returns-in_err-parts-clause-halts : goal.read_target-returns-in_err-parts-clause-halts
read_target-returns-in_err-parts-clause-halts t c = let p = err_from_is_err_and c.from_residual-in_err-parts.result c.from_residual-in_err-parts.ensures.1 in
    rw (p.1, p.2) (Steps.target_parts_halt _ _ _ _ _ _ c.in_default.ensures.free c.in_ok-inner.ensures.found.1 c.in_ok-below.ensures.less c.in_err-parts.ensures.halts)

pub read_target-returns-in_err-rest-clause-halts : goal.read_target-returns-in_err-rest-clause-halts
read_target-returns-in_err-rest-clause-halts t c = let p = err_from_is_err_and c.from_residual-in_err-rest.result c.from_residual-in_err-rest.ensures.1 in
    rw (p.1, p.2) (Steps.target_open _ _ _ _ _ _ _ _ c.in_default.ensures.free c.in_ok-inner.ensures.found.1 c.in_ok-below.ensures.less c.in_ok-parts.ensures.read c.in_err-rest.ensures.free c.in_err-rest.ensures.refused)

pub read_target-returns-clause-read : goal.read_target-returns-clause-read
read_target-returns-clause-read t c = Steps.target_closed _ _ _ _ _ _ _ _ _ _ c.in_default.ensures.free c.in_ok-inner.ensures.found.1 c.in_ok-below.ensures.less c.in_ok-parts.ensures.read c.in_ok-rest.ensures.found.1 c.make_targets.ensures

pub read_targets-returns-in_err-first-clause-halts : goal.read_targets-returns-in_err-first-clause-halts
read_targets-returns-in_err-first-clause-halts t c = let p = err_from_is_err_and c.from_residual.result c.from_residual.ensures.1 in
    rw (p.1, p.2) (Steps.targets_halt _ _ _ c.in_err-first.ensures.halts)

pub read_targets-returns-in_err-push-clause-halts : goal.read_targets-returns-in_err-push-clause-halts
read_targets-returns-in_err-push-clause-halts t c = let p = err_from_is_err_and c.from_residual-in_err-push.result c.from_residual-in_err-push.ensures.1 in
    rw p.1 (halts_for_memory _ _ p.2)

pub read_targets-returns-in_err-next-clause-halts : goal.read_targets-returns-in_err-next-clause-halts
read_targets-returns-in_err-next-clause-halts t c = let p = err_from_is_err_and c.from_residual-in_err-next.result c.from_residual-in_err-next.ensures.1 in
    rw (p.1, p.2) (Steps.targets_stop _ _ _ _ _ _ _ c.loop-after.invariant.lists c.in-Some.ensures.found.1 c.in_err-next.ensures.halts)

pub read_targets-returns-in_err-push-2-clause-halts : goal.read_targets-returns-in_err-push-2-clause-halts
read_targets-returns-in_err-push-2-clause-halts t c = let p = err_from_is_err_and c.from_residual-in_err-push-2.result c.from_residual-in_err-push-2.ensures.1 in
    rw p.1 (halts_for_memory _ _ p.2)

pub read_targets-loop-after-preserved : goal.read_targets-loop-after-preserved
read_targets-loop-after-preserved t c = record {
  lists = Steps.targets_more _ _ _ _ _ _ _ _ _ c.loop-after.invariant.lists c.in-Some.ensures.found.1 c.in_ok-next.ensures.read c.in_ok-push-2.ensures.pushed;
  shorter = omega (arith, c.in_ok-next.ensures.shorter, c.in-Some.ensures.shorter, c.loop-after.invariant.shorter);
}

pub read_targets-loop-after-init : goal.read_targets-loop-after-init
read_targets-loop-after-init t c = record {
  lists = Steps.targets_first _ _ _ _ _ c.in_ok-first.ensures.read (search rules);
  shorter = omega (arith, c.in_ok-first.ensures.shorter);
}

pub read_targets-returns-clause-read : goal.read_targets-returns-clause-read
read_targets-returns-clause-read t c = Steps.targets_end _ _ _ _ c.loop-after.invariant.lists c.in_default.ensures.free
