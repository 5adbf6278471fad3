use Rattle.verilog_parse.proofs.TextSteps.{ok_behind, ok_as}
use Rattle.verilog_parse.proofs.ItemTexts as Text
use Rattle.verilog_parse.proofs.text.module.put_module.Goals as goal

pub returns : goal.returns
returns c = ok_as _ _ _ _ _ (Text.module_printed c.args.module.now _ _ _ c.as_slice.ensures c.as_slice-2.ensures c.as_slice-3.ensures)
    (ok_behind _ _ _ _ _ _ c.in_ok-put_word.ensures (ok_behind _ _ _ _ _ _ c.in_ok-put_name.ensures (ok_behind _ _ _ _ _ _ c.in_ok-put_header_params.ensures
    (ok_behind _ _ _ _ _ _ c.in_ok-put_mark.ensures (ok_behind _ _ _ _ _ _ c.in_ok-put_ports.ensures (ok_behind _ _ _ _ _ _ c.in_ok-put_mark-2.ensures
    (ok_behind _ _ _ _ _ _ c.in_ok-put_mark-3.ensures (ok_behind _ _ _ _ _ _ c.in_ok-put_line_end.ensures (ok_behind _ _ _ _ _ _ c.in_ok-put_items.ensures
    (ok_behind _ _ _ _ _ _ c.in_ok-put_word-2.ensures c.put_line_end-2.ensures))))))))))
