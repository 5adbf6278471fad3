use Rattle.std.proofs.Common.{rules}
use Rattle.verilog_parse.proofs.TextSteps.{ok_behind, ok_as, adds_both, lists_step}
use Rattle.verilog_parse.proofs.ExprTexts as Text
use Rattle.verilog_parse.proofs.text.expr.+put_target.Goals as goal

pub put_target-returns-in_ok-put_expr-in-At : goal.put_target-returns-in_ok-put_expr-in-At
put_target-returns-in_ok-put_expr-in-At t c = ok_as _ _ _ _ _ (Text.target_at_printed _ _ _ c.in-At.is)
    (ok_behind _ _ _ _ _ _ c.in_ok-put_name-in-At.ensures (ok_behind _ _ _ _ _ _ c.in_ok-put_mark-in-At.ensures (ok_behind _ _ _ _ _ _ c.in_ok-put_expr-in-At.ensures c.put_mark-in-At.ensures)))

pub put_target-returns-in_ok-put_expr-in-Part-2 : goal.put_target-returns-in_ok-put_expr-in-Part-2
put_target-returns-in_ok-put_expr-in-Part-2 t c = ok_as _ _ _ _ _ (Text.target_part_printed _ _ _ _ _ _ c.in-Part.is c.part_mark.ensures)
    (ok_behind _ _ _ _ _ _ c.in_ok-put_name-in-Part.ensures (ok_behind _ _ _ _ _ _ c.in_ok-put_mark-in-Part.ensures (ok_behind _ _ _ _ _ _ (adds_both _ _ _ _ _ c.in_ok-put_expr-in-Part.ensures (adds_both _ _ _ _ _ c.in_ok-put_mark-in-Part-2.ensures c.in_ok-put_expr-in-Part-2.ensures)) c.put_mark-in-Part-3.ensures)))

pub put_targets-loop-at-preserved : goal.put_targets-loop-at-preserved
put_targets-loop-at-preserved t c = lists_step _ _ _ _ _ _ _ _ _ _ (search rules) c.index-targets-at.is c.loop-at.invariant c.in_ok-put_comma.ensures c.in_ok-put_target.ensures

pub put_target-returns-in_ok-put_targets-in-Join : goal.put_target-returns-in_ok-put_targets-in-Join
put_target-returns-in_ok-put_targets-in-Join t c = ok_as _ _ _ _ _ (Text.targets_printed _ _ _ c.in-Join.is c.as_slice.ensures)
    (ok_behind _ _ _ _ _ _ c.in_ok-put_mark-in-Join.ensures (ok_behind _ _ _ _ _ _ c.in_ok-put_targets-in-Join.ensures c.put_mark-in-Join-2.ensures))
