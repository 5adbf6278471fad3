use Rattle.verilog_parse.proofs.TextSteps.{ok_behind, ok_as}
use Rattle.verilog_parse.proofs.ItemTexts as Text
use Rattle.verilog_parse.proofs.text.item.put_gate.Goals as goal

pub returns : goal.returns
returns c = ok_as _ _ _ _ _ (Text.gate_printed _ _ _ c.gate_word.ensures)
    (ok_behind _ _ _ _ _ _ c.in_ok-put_word.ensures (ok_behind _ _ _ _ _ _ c.in_ok-put_mark.ensures (ok_behind _ _ _ _ _ _ c.in_ok-put_exprs.ensures (ok_behind _ _ _ _ _ _ c.in_ok-put_mark-2.ensures c.put_mark-3.ensures))))
