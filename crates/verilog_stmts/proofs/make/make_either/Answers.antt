use Rattle.verilog_stmts.proofs.MakeSteps
use Rattle.verilog_stmts.proofs.make.make_either.Goals as goal

pub returns : goal.returns
returns c = MakeSteps.either_tree _ _ _ _ _ c.in_ok-boxed_stmt.ensures c.in_ok-boxed_stmt-2.ensures
