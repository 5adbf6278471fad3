use Rattle.std.proofs.Common.{rules}
use Rattle.verilog_reading.specs.Lexemes.{spot_of}
use Rattle.verilog_reading.specs.Operators.{binary_of}
use Rattle.verilog_exprs.proofs.TokenSteps.{joint_found, at_level_found}
use Rattle.verilog_exprs.proofs.operators.after_binary.Goals as goal

pub returns-in-Some-clause-found : goal.returns-in-Some-clause-found
returns-in-Some-clause-found c = let t = c.in_ok-first.first.now in
    (record { op = c.in-Some.op; sign = c.in-Mark.mark; spot = spot_of t }, record { token = t; is = search rules; finds = joint_found c.args.level c.in-Mark.mark c.in-Some.op t (search rules) (at_level_found (binary_of c.in-Mark.mark) c.args.level c.in-Some.op (search rules) (search rules)) }, search rules)
