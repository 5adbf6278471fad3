use Rattle.std.proofs.Common.{rules}
use Rattle.verilog_reading.specs.Lexemes.{spot_of}
use Rattle.verilog_exprs.proofs.TokenSteps.{word_found}
use Rattle.verilog_exprs.proofs.tokens.after_word.Goals as goal

pub returns-in-Word-clause-found : goal.returns-in-Word-clause-found
returns-in-Word-clause-found c = let t = c.in_ok-first.first.now in
    (spot_of t, record { token = t; is = search rules; finds = word_found c.args.word c.in-Word.found t (search rules) (search rules) })
