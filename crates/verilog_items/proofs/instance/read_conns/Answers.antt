use Rattle.std.proofs.lemmas.Result.{err_from_is_err_and}
use Rattle.verilog_items.proofs.InstanceSteps as Steps
use Rattle.verilog_items.proofs.instance.read_conns.Goals as goal

pub returns-in_err-inner-clause-halts : goal.returns-in_err-inner-clause-halts
returns-in_err-inner-clause-halts c = let p = err_from_is_err_and c.from_residual.result c.from_residual.ensures.1 in
    rw (p.1, p.2) (Steps.conns_unopened _ _ _ c.in_err-inner.ensures.free c.in_err-inner.ensures.refused)

pub returns-in-Some-clause-read : goal.returns-in-Some-clause-read
returns-in-Some-clause-read c = rw (Steps.conns_named _ _ _ _ _ _ c.in_ok-inner.ensures.found.1 c.in-Some.ensures.found.1) c.read_named.ensures.read

pub returns-in-Some-clause-halts : goal.returns-in-Some-clause-halts
returns-in-Some-clause-halts c = rw (Steps.conns_named _ _ _ _ _ _ c.in_ok-inner.ensures.found.1 c.in-Some.ensures.found.1) c.read_named.ensures.halts

pub returns-in-None-clause-read : goal.returns-in-None-clause-read
returns-in-None-clause-read c = rw (Steps.conns_ordered _ _ _ _ c.in_ok-inner.ensures.found.1 c.in-None.ensures.free) c.read_ordered.ensures.read

pub returns-in-None-clause-halts : goal.returns-in-None-clause-halts
returns-in-None-clause-halts c = rw (Steps.conns_ordered _ _ _ _ c.in_ok-inner.ensures.found.1 c.in-None.ensures.free) c.read_ordered.ensures.halts
