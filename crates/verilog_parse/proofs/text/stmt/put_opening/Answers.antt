use Rattle.verilog_parse.proofs.TextSteps.{ok_behind}
use Rattle.verilog_parse.proofs.text.stmt.put_opening.Goals as goal

pub returns : goal.returns
returns c = ok_behind _ _ _ _ _ _ c.in_ok-put_word.ensures (ok_behind _ _ _ _ _ _ c.in_ok-put_mark.ensures (ok_behind _ _ _ _ _ _ c.in_ok-put_expr.ensures c.put_mark-2.ensures))
