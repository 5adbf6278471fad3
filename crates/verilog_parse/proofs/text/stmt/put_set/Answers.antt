use Rattle.verilog_reading.specs.ExprTree.{tree_of, target_tree_of}
use Rattle.verilog_parse.proofs.TextSteps.{ok_behind, ok_as}
use Rattle.verilog_parse.proofs.StmtTexts as Text
use Rattle.verilog_parse.proofs.text.stmt.put_set.Goals as goal

pub returns : goal.returns
returns c = ok_as _ _ c.put_mark-2.new.out.items _ _ (Text.set_printed c.args.blocking c.args.delay.now (target_tree_of c.args.target.now) (tree_of c.args.value.now) _ c.set_mark.ensures)
    (ok_behind _ _ _ _ _ _ c.in_ok-put_target.ensures (ok_behind _ _ _ _ _ _ c.in_ok-put_mark.ensures (ok_behind _ _ _ _ _ _ c.in_ok-put_delay.ensures (ok_behind _ _ _ _ _ _ c.in_ok-put_expr.ensures c.put_mark-2.ensures))))
