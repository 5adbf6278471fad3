use Rattle.std.proofs.Common.{rules}
use Rattle.verilog_reading.specs.Lexemes.{spot_of}
use Rattle.verilog_exprs.proofs.TokenSteps.{prefix_found}
use Rattle.verilog_exprs.proofs.operators.after_unary.Goals as goal

pub returns-in-Some-clause-found : goal.returns-in-Some-clause-found
returns-in-Some-clause-found c = let t = c.in_ok-first.first.now in
    (record { op = c.in-Some.op; sign = c.in-Mark.mark; spot = spot_of t }, record { token = t; is = search rules; finds = prefix_found c.in-Mark.mark c.in-Some.op t (search rules) (search rules) }, search rules)
