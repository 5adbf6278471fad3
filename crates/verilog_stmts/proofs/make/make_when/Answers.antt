use Rattle.verilog_stmts.proofs.MakeSteps
use Rattle.verilog_stmts.proofs.make.make_when.Goals as goal

pub returns : goal.returns
returns c = MakeSteps.when_tree _ _ _ c.in_ok-boxed_stmt.ensures
