use Rattle.std.proofs.Common.{rules}
use Rattle.verilog_reading.specs.Lexemes.{spot_of}
use Rattle.verilog_stmts.proofs.StmtSteps.{case_found}
use Rattle.verilog_stmts.proofs.stmt.after_case.Goals as goal

pub returns-in-Some-clause-found : goal.returns-in-Some-clause-found
returns-in-Some-clause-found c = let t = c.in_ok-first.first.now in
    (spot_of t, record { token = t; is = search rules; finds = case_found c.in-Word.word c.in-Some.masks t (search rules) (search rules) })
