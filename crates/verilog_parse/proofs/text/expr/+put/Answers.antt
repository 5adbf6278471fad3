use Rattle.std.proofs.Common.{rules}
use Rattle.verilog_parse.proofs.TextSteps.{ok_behind, ok_as, adds_both, lists_step}
use Rattle.verilog_parse.proofs.ExprTexts as Text
use Rattle.verilog_parse.proofs.text.expr.+put.Goals as goal

pub put_expr-returns-in_ok-put_expr-in-At : goal.put_expr-returns-in_ok-put_expr-in-At
put_expr-returns-in_ok-put_expr-in-At t c = ok_as _ _ _ _ _ (Text.at_printed _ _ _ _ c.in-At.is c.deref.ensures)
    (ok_behind _ _ _ _ _ _ c.in_ok-put_name-in-At.ensures (ok_behind _ _ _ _ _ _ c.in_ok-put_mark-in-At.ensures (ok_behind _ _ _ _ _ _ c.in_ok-put_expr-in-At.ensures c.put_mark-in-At.ensures)))

pub put_expr-returns-in_ok-put_expr-in-Part-2 : goal.put_expr-returns-in_ok-put_expr-in-Part-2
put_expr-returns-in_ok-put_expr-in-Part-2 t c = ok_as _ _ _ _ _ (Text.part_printed _ _ _ _ _ _ _ _ c.in-Part.is c.deref-in-Part.ensures c.deref-in-Part-2.ensures c.part_mark.ensures)
    (ok_behind _ _ _ _ _ _ c.in_ok-put_name-in-Part.ensures (ok_behind _ _ _ _ _ _ c.in_ok-put_mark-in-Part.ensures (ok_behind _ _ _ _ _ _ (adds_both _ _ _ _ _ c.in_ok-put_expr-in-Part.ensures (adds_both _ _ _ _ _ c.in_ok-put_mark-in-Part-2.ensures c.in_ok-put_expr-in-Part-2.ensures)) c.put_mark-in-Part-3.ensures)))

pub put_expr-returns-in_ok-put_mark-in-Unary : goal.put_expr-returns-in_ok-put_mark-in-Unary
put_expr-returns-in_ok-put_mark-in-Unary t c = ok_as _ _ _ _ _ (Text.unary_printed _ _ _ _ _ c.in-Unary.is c.deref-in-Unary.ensures c.unary_mark.ensures)
    (ok_behind _ _ _ _ _ _ c.in_ok-put_mark-in-Unary.ensures c.put_expr-in-Unary.ensures)

pub put_expr-returns-in_ok-put_mark-in-Binary : goal.put_expr-returns-in_ok-put_mark-in-Binary
put_expr-returns-in_ok-put_mark-in-Binary t c = ok_as _ _ _ _ _ (Text.binary_printed _ _ _ _ _ _ _ c.in-Binary.is c.deref-in-Binary.ensures c.deref-in-Binary-2.ensures c.binary_mark.ensures)
    (ok_behind _ _ _ _ _ _ c.in_ok-put_expr-in-Binary.ensures (ok_behind _ _ _ _ _ _ c.in_ok-put_mark-in-Binary.ensures c.put_expr-in-Binary-2.ensures))

pub put_expr-returns-in_ok-put_mark-in-Choose-2 : goal.put_expr-returns-in_ok-put_mark-in-Choose-2
put_expr-returns-in_ok-put_mark-in-Choose-2 t c = ok_as _ _ _ _ _ (Text.choice_printed _ _ _ _ _ _ _ c.in-Choose.is c.deref-in-Choose.ensures c.deref-in-Choose-2.ensures c.deref-in-Choose-3.ensures)
    (ok_behind _ _ _ _ _ _ c.in_ok-put_expr-in-Choose.ensures (ok_behind _ _ _ _ _ _ c.in_ok-put_mark-in-Choose.ensures (ok_behind _ _ _ _ _ _ c.in_ok-put_expr-in-Choose-2.ensures (ok_behind _ _ _ _ _ _ c.in_ok-put_mark-in-Choose-2.ensures c.put_expr-in-Choose-3.ensures))))

pub put_expr-returns-in_ok-put_exprs-in-Join : goal.put_expr-returns-in_ok-put_exprs-in-Join
put_expr-returns-in_ok-put_exprs-in-Join t c = ok_as _ _ _ _ _ (Text.join_printed _ _ _ c.in-Join.is c.as_slice.ensures)
    (ok_behind _ _ _ _ _ _ c.in_ok-put_mark-in-Join.ensures (ok_behind _ _ _ _ _ _ c.in_ok-put_exprs-in-Join.ensures c.put_mark-in-Join-2.ensures))

pub put_expr-returns-in_ok-put_mark-in-Repeat-3 : goal.put_expr-returns-in_ok-put_mark-in-Repeat-3
put_expr-returns-in_ok-put_mark-in-Repeat-3 t c = ok_as _ _ _ _ _ (Text.repeat_printed _ _ _ _ _ c.in-Repeat.is c.deref-in-Repeat.ensures c.as_slice-in-Repeat.ensures)
    (ok_behind _ _ _ _ _ _ c.in_ok-put_mark-in-Repeat.ensures (ok_behind _ _ _ _ _ _ (adds_both _ _ _ _ _ c.in_ok-put_expr-in-Repeat.ensures (adds_both _ _ _ _ _ c.in_ok-put_mark-in-Repeat-2.ensures (adds_both _ _ _ _ _ c.in_ok-put_exprs-in-Repeat.ensures c.in_ok-put_mark-in-Repeat-3.ensures))) c.put_mark-in-Repeat-4.ensures))

pub put_expr-returns-in_ok-put_expr-in-Paren : goal.put_expr-returns-in_ok-put_expr-in-Paren
put_expr-returns-in_ok-put_expr-in-Paren t c = ok_as _ _ _ _ _ (Text.paren_printed _ _ _ c.in-Paren.is c.deref-in-Paren.ensures)
    (ok_behind _ _ _ _ _ _ c.in_ok-put_mark-in-Paren.ensures (ok_behind _ _ _ _ _ _ c.in_ok-put_expr-in-Paren.ensures c.put_mark-in-Paren-2.ensures))

pub put_exprs-loop-at-preserved : goal.put_exprs-loop-at-preserved
put_exprs-loop-at-preserved t c = lists_step _ _ _ _ _ _ _ _ _ _ (search rules) c.index-exprs-at.is c.loop-at.invariant c.in_ok-put_comma.ensures c.in_ok-put_expr.ensures
