use Rattle.std.proofs.Common.{rules}
use Rattle.verilog_reading.specs.Lexemes.{spot_of}
use Rattle.verilog_exprs.proofs.tokens.after_ident.Goals as goal

pub returns-in-Ident-clause-found : goal.returns-in-Ident-clause-found
returns-in-Ident-clause-found c = let t = c.in_ok-first.first.now in
    (spot_of t, record { token = t; is = search rules; finds = search rules })
