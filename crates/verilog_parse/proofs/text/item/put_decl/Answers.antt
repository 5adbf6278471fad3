use Rattle.verilog_parse.proofs.TextSteps.{ok_behind}
use Rattle.verilog_parse.proofs.text.item.put_decl.Goals as goal

pub returns : goal.returns
returns c = ok_behind _ _ _ _ _ _ c.in_ok-put_kind.ensures (ok_behind _ _ _ _ _ _ c.in_ok-put_range.ensures (ok_behind _ _ _ _ _ _ c.in_ok-put_name.ensures (ok_behind _ _ _ _ _ _ c.in_ok-put_range-2.ensures c.put_init.ensures)))
