use Rattle.verilog_parse.proofs.TextSteps.{ok_behind, adds_both, ok_as}
use Rattle.verilog_parse.proofs.ItemTexts as Text
use Rattle.verilog_parse.proofs.text.item.put_range.Goals as goal

pub returns : goal.returns
returns c = ok_as _ _ _ _ _ (Text.range_printed _ _ c.in-Some.is)
    (ok_behind _ _ _ _ _ _ c.in_ok-put_mark.ensures (ok_behind _ _ _ _ _ _ (adds_both _ _ _ _ _ c.in_ok-put_expr.ensures (adds_both _ _ _ _ _ c.in_ok-put_mark-2.ensures c.in_ok-put_expr-2.ensures)) c.put_mark-3.ensures))
