use Rattle.std.proofs.Common.{rules}
use Rattle.verilog_reading.specs.Lexemes.{spot_of}
use Rattle.verilog_exprs.proofs.TokenSteps.{mark_found}
use Rattle.verilog_exprs.proofs.tokens.after_mark.Goals as goal

pub returns-in-Mark-clause-found : goal.returns-in-Mark-clause-found
returns-in-Mark-clause-found c = let t = c.in_ok-first.first.now in
    (spot_of t, record { token = t; is = search rules; finds = mark_found c.args.mark c.in-Mark.found t (search rules) (search rules) })
