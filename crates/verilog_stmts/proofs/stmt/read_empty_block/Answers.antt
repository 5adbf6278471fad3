use Rattle.std.proofs.Common.{refl, rules}
use Rattle.verilog_stmts.proofs.StmtSteps as Steps
use Rattle.verilog_stmts.proofs.stmt.read_empty_block.Goals as goal

pub returns-in-Some-clause-read : goal.returns-in-Some-clause-read
returns-in-Some-clause-read c = Steps.empty_done _ _ _ _ _ c.in-Some.ensures.found.1 (search rules) c.make_block.ensures

pub returns-in-Some-clause-nearest : goal.returns-in-Some-clause-nearest
returns-in-Some-clause-nearest c = Steps.takes_none _ _ _ c.make_block.ensures refl

pub returns-in-None-clause-halts : goal.returns-in-None-clause-halts
returns-in-None-clause-halts c = Steps.empty_refused _ _ _ c.in-None.ensures.free c.starts_stmt.ensures.starts c.starts_stmt.ensures.free c.refused.ensures
