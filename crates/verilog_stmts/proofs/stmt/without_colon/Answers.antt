use Rattle.verilog_stmts.proofs.StmtSteps as Steps
use Rattle.verilog_stmts.proofs.stmt.without_colon.Goals as goal

pub returns-in-Some-clause-found : goal.returns-in-Some-clause-found
returns-in-Some-clause-found c = Steps.colon_goes _ _ _ c.in-Some.ensures.found.1

pub returns-in-None-clause-found : goal.returns-in-None-clause-found
returns-in-None-clause-found c = Steps.no_colon_goes _ c.in-None.ensures.free
