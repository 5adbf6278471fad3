use Rattle.verilog_parse.proofs.TextSteps.{ok_behind, ok_as}
use Rattle.verilog_parse.proofs.ItemTexts as Text
use Rattle.verilog_parse.proofs.text.item.put_param.Goals as goal

pub returns : goal.returns
returns c = ok_as _ _ _ _ _ (Text.param_printed _ _ c.param_word.ensures)
    (ok_behind _ _ _ _ _ _ c.in_ok-put_word.ensures (ok_behind _ _ _ _ _ _ c.in_ok-put_range.ensures (ok_behind _ _ _ _ _ _ c.in_ok-put_name.ensures (ok_behind _ _ _ _ _ _ c.in_ok-put_mark.ensures c.put_expr.ensures))))
