use Rattle.std.proofs.Common.{rules}
use Rattle.verilog_items.proofs.InstanceSteps as Steps
use Rattle.verilog_items.proofs.instance.read_overrides.Goals as goal

pub returns-in-Some-clause-read : goal.returns-in-Some-clause-read
returns-in-Some-clause-read c = rw (Steps.overrides_are _ _ _ _ c.in-Some.ensures.found.1) c.read_conns.ensures.read

pub returns-in-Some-clause-halts : goal.returns-in-Some-clause-halts
returns-in-Some-clause-halts c = rw (Steps.overrides_are _ _ _ _ c.in-Some.ensures.found.1) c.read_conns.ensures.halts

pub returns-in-None-clause-read : goal.returns-in-None-clause-read
returns-in-None-clause-read c = Steps.overrides_none _ _ _ _ c.in-None.ensures.free (search rules) c.ordered_conns.ensures
