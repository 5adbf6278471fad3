use Rattle.std.proofs.lemmas.Result.{err_from_is_err_and}
use Rattle.verilog_items.proofs.DeclSteps as Steps
use Rattle.verilog_items.proofs.decl.read_init.Goals as goal

pub returns-in_default-clause-read : goal.returns-in_default-clause-read
returns-in_default-clause-read c = Steps.init_none _ _ c.in_default.ensures.free

pub returns-in_err-value-clause-halts : goal.returns-in_err-value-clause-halts
returns-in_err-value-clause-halts c = let p = err_from_is_err_and c.from_residual.result c.from_residual.ensures.1 in
    rw (p.1, p.2) (Steps.init_halts _ _ _ _ _ c.in-Some.ensures.found.1 c.in_err-value.ensures.halts)

pub returns-clause-read : goal.returns-clause-read
returns-clause-read c = Steps.init_done _ _ _ _ _ _ c.in-Some.ensures.found.1 c.in_ok-value.ensures.read
