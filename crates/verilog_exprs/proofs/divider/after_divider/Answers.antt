use Rattle.std.proofs.Common.{rules}
use Rattle.verilog_reading.specs.Lexemes.{spot_of}
use Rattle.verilog_exprs.proofs.TokenSteps.{divider_found}
use Rattle.verilog_exprs.proofs.divider.after_divider.Goals as goal

pub returns-in-Some-clause-found : goal.returns-in-Some-clause-found
returns-in-Some-clause-found c = let t = c.in_ok-first.first.now in
    (spot_of t, record { token = t; is = search rules; finds = divider_found c.in-Mark.mark c.in-Some.kind t (search rules) (search rules) })
