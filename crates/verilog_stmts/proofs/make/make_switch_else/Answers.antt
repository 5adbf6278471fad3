use Rattle.verilog_stmts.proofs.MakeSteps
use Rattle.verilog_stmts.proofs.make.make_switch_else.Goals as goal

pub returns : goal.returns
returns c = MakeSteps.switch_else_tree _ _ _ _ _ c.in_ok-boxed_stmt.ensures
