use Rattle.std.proofs.Common.{refl, rules}
use Rattle.verilog_reading.specs.Lexemes.{spot_of}
use Rattle.verilog_stmts.proofs.assignment.after_value.Goals as goal

pub returns-clause-found : goal.returns-clause-found
returns-clause-found c = let t = c.in_ok-first.first.now in
    (record { value = c.in-Number.value; width = c.in-Number.width; size = c.in-Number.size; spot = spot_of t }, record { token = t; is = search rules; finds = search rules }, refl)
