use Rattle.std.proofs.Common.{rules}
use Rattle.verilog_parse.specs.Texts.{printed_arm, printed_row}
use Rattle.verilog_parse.proofs.TextSteps.{ok_behind, ok_as, adds_both, adds_as, rows_step}
use Rattle.verilog_parse.proofs.StmtTexts as Text
use Rattle.verilog_parse.proofs.text.stmt.+put.Goals as goal

pub put_case_item-returns : goal.put_case_item-returns
put_case_item-returns t c = ok_as _ _ _ _ _ (Text.arm_printed _ _ c.as_slice.ensures)
    (ok_behind _ _ _ _ _ _ c.in_ok-put_labels.ensures (ok_behind _ _ _ _ _ _ c.in_ok-put_mark.ensures (ok_behind _ _ _ _ _ _ c.in_ok-put_stmt.ensures c.put_line_end.ensures)))

pub put_case_items-loop-item-preserved : goal.put_case_items-loop-item-preserved
put_case_items-loop-item-preserved t c = rows_step printed_arm c.args.items.now c.item-item.result c.loop-item.item-index _ _ _ _ (search rules) c.item-item.is c.loop-item.invariant
    c.in_ok-put_case_item.ensures

pub put_default-returns : goal.put_default-returns
put_default-returns t c = ok_as _ _ _ _ _ (Text.default_printed _ _ _ c.in-Some.is c.deref.ensures)
    (ok_behind _ _ _ _ _ _ c.in_ok-put_word.ensures (ok_behind _ _ _ _ _ _ c.in_ok-put_mark.ensures (ok_behind _ _ _ _ _ _ c.in_ok-put_stmt.ensures c.put_line_end.ensures)))

pub put_stmt-returns-in-None : goal.put_stmt-returns-in-None
put_stmt-returns-in-None t c = adds_as _ _ _ _ (Text.when_printed _ _ _ _ _ c.in-If.is c.in-None.is c.deref.ensures)
    (adds_both _ _ _ _ _ c.in_ok-put_opening-in-If.ensures c.in_ok-put_stmt-in-If.ensures)

pub put_stmt-returns-in_ok-put_word-in-Some : goal.put_stmt-returns-in_ok-put_word-in-Some
put_stmt-returns-in_ok-put_word-in-Some t c = ok_as _ _ _ _ _ (Text.either_printed _ _ _ _ _ _ _ c.in-If.is c.in-Some.is c.deref.ensures c.deref-in-Some.ensures)
    (ok_behind _ _ _ _ _ _ c.in_ok-put_opening-in-If.ensures (ok_behind _ _ _ _ _ _ c.in_ok-put_stmt-in-If.ensures (ok_behind _ _ _ _ _ _ c.in_ok-put_word-in-Some.ensures c.put_stmt-in-Some.ensures)))

pub put_stmt-returns-in_ok-put_default-in-Case : goal.put_stmt-returns-in_ok-put_default-in-Case
put_stmt-returns-in_ok-put_default-in-Case t c = ok_as _ _ _ _ _ (Text.case_printed _ _ _ _ _ _ _ c.in-Case.is c.as_slice.ensures c.case_word.ensures)
    (ok_behind _ _ _ _ _ _ c.in_ok-put_opening-in-Case.ensures (ok_behind _ _ _ _ _ _ c.in_ok-put_line_end-in-Case.ensures (ok_behind _ _ _ _ _ _ c.in_ok-put_case_items-in-Case.ensures (ok_behind _ _ _ _ _ _ c.in_ok-put_default-in-Case.ensures c.put_word-in-Case.ensures))))

pub put_stmt-returns-in_ok-put_stmts-in-Block : goal.put_stmt-returns-in_ok-put_stmts-in-Block
put_stmt-returns-in_ok-put_stmts-in-Block t c = ok_as _ _ _ _ _ (Text.block_printed _ _ _ c.in-Block.is c.as_slice-in-Block.ensures)
    (ok_behind _ _ _ _ _ _ c.in_ok-put_word-in-Block.ensures (ok_behind _ _ _ _ _ _ c.in_ok-put_line_end-in-Block.ensures (ok_behind _ _ _ _ _ _ c.in_ok-put_stmts-in-Block.ensures c.put_word-in-Block-2.ensures)))

pub put_stmts-loop-stmt-preserved : goal.put_stmts-loop-stmt-preserved
put_stmts-loop-stmt-preserved t c = rows_step printed_row c.args.stmts.now c.stmt-item.result c.loop-stmt.stmt-index _ _ _ _ (search rules) c.stmt-item.is c.loop-stmt.invariant
    (adds_both _ _ _ _ _ c.in_ok-put_stmt.ensures c.in_ok-put_line_end.ensures)
