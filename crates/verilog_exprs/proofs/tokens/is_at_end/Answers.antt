use Rattle.std.proofs.Common.{◌≡◌, Some, rules}
use Rattle.std.specs.List.{slice_get}
use Rattle.verilog_reading.specs.Lexemes.{spot_of}
use Rattle.verilog_exprs.proofs.TokenSteps.{behind_first}
use Rattle.verilog_exprs.proofs.tokens.is_at_end.Goals as goal

pub returns-in-Some-End-clause-ended : goal.returns-in-Some-End-clause-ended
returns-in-Some-End-clause-ended c = λ _.
    let t = c.in-Some-End.field-0.now in
    let s : slice_get c.args.tokens.now 0 ≡ Some t = search rules in
    let f = behind_first c.args.tokens.now t s in
    (spot_of t, f.0, record { token = t; is = f.1; finds = search rules })
