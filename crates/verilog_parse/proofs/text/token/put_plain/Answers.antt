use Rattle.std.proofs.Common.{rules}
use Rattle.verilog_parse.proofs.TextSteps.{ok_number}
use Rattle.verilog_parse.proofs.text.token.put_plain.Goals as goal

pub returns-in-Ok : goal.returns-in-Ok
returns-in-Ok c = ok_number _ _ _ _ _ (search rules) c.put.ensures
