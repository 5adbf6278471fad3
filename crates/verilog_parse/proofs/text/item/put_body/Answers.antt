use Rattle.verilog_parse.proofs.TextSteps.{ok_behind, ok_as}
use Rattle.verilog_parse.proofs.ItemTexts as Text
use Rattle.verilog_parse.proofs.text.item.put_body.Goals as goal

pub returns-in_ok-put_param-in-Param : goal.returns-in_ok-put_param-in-Param
returns-in_ok-put_param-in-Param c = ok_as _ _ _ _ _ (Text.param_body _ _ c.in-Param.is) (ok_behind _ _ _ _ _ _ c.in_ok-put_param-in-Param.ensures c.put_mark.ensures)

pub returns-in_ok-put_decl-in-Decl : goal.returns-in_ok-put_decl-in-Decl
returns-in_ok-put_decl-in-Decl c = ok_as _ _ _ _ _ (Text.decl_body _ _ c.in-Decl.is) (ok_behind _ _ _ _ _ _ c.in_ok-put_decl-in-Decl.ensures c.put_mark-in-Decl.ensures)

pub returns-in_ok-put_event-in-Always : goal.returns-in_ok-put_event-in-Always
returns-in_ok-put_event-in-Always c = ok_as _ _ _ _ _ (Text.always_body _ _ _ c.in-Always.is)
    (ok_behind _ _ _ _ _ _ c.in_ok-put_word-in-Always.ensures (ok_behind _ _ _ _ _ _ c.in_ok-put_event-in-Always.ensures c.put_stmt.ensures))
