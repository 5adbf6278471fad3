use Rattle.verilog_parse.proofs.TextSteps.{ok_behind}
use Rattle.verilog_parse.proofs.text.item.put_item.Goals as goal

pub returns : goal.returns
returns c = ok_behind _ _ _ _ _ _ c.in_ok-put_body.ensures c.put_line_end.ensures
