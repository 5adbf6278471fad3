use Rattle.std.proofs.Common.{rules}
use Rattle.verilog_parse.proofs.TextSteps.{ok_unsized}
use Rattle.verilog_parse.proofs.text.token.put_unsized.Goals as goal

pub returns-in-Ok : goal.returns-in-Ok
returns-in-Ok c = ok_unsized _ _ _ _ _ (search rules) c.put.ensures
