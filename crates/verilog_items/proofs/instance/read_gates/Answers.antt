use Rattle.std.proofs.lemmas.Result.{err_from_is_err_and}
use Rattle.verilog_items.proofs.InstanceSteps as Steps
use Rattle.verilog_items.proofs.instance.read_gates.Goals as goal

pub returns-in_err-rest-clause-halts : goal.returns-in_err-rest-clause-halts
returns-in_err-rest-clause-halts c = let p = err_from_is_err_and c.from_residual.result c.from_residual.ensures.1 in
    rw (p.1, p.2) (Steps.gates_delay_halts 255 c.args.place c.args.kind c.args.tokens.now _ c.in_err-rest.ensures.halts)

pub returns-clause-read : goal.returns-clause-read
returns-clause-read c = rw (Steps.gates_are 255 c.args.place c.args.kind c.args.tokens.now _ c.in_ok-rest.ensures.read) c.read_gate_list.ensures.read

pub returns-clause-halts : goal.returns-clause-halts
returns-clause-halts c = rw (Steps.gates_are 255 c.args.place c.args.kind c.args.tokens.now _ c.in_ok-rest.ensures.read) c.read_gate_list.ensures.halts
