use Rattle.verilog_parse.proofs.TextSteps.{ok_behind}
use Rattle.verilog_parse.proofs.text.item.put_instance.Goals as goal

pub returns : goal.returns
returns c = ok_behind _ _ _ _ _ _ c.in_ok-put_name.ensures (ok_behind _ _ _ _ _ _ c.in_ok-put_overrides.ensures (ok_behind _ _ _ _ _ _ c.in_ok-put_name-2.ensures (ok_behind _ _ _ _ _ _ c.in_ok-put_conns.ensures c.put_mark.ensures)))
