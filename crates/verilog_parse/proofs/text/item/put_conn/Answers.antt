use Rattle.verilog_parse.proofs.TextSteps.{ok_behind}
use Rattle.verilog_parse.proofs.text.item.put_conn.Goals as goal

pub returns : goal.returns
returns c = ok_behind _ _ _ _ _ _ c.in_ok-put_mark.ensures (ok_behind _ _ _ _ _ _ c.in_ok-put_name.ensures (ok_behind _ _ _ _ _ _ c.in_ok-put_mark-2.ensures (ok_behind _ _ _ _ _ _ c.in_ok-put_value.ensures c.put_mark-3.ensures)))
