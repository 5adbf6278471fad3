use Rattle.std.proofs.Common.{rules}
use Rattle.verilog_parse.proofs.TextSteps.{ok_behind, ok_as}
use Rattle.verilog_parse.proofs.ItemTexts as Text
use Rattle.verilog_parse.proofs.text.module.put_header_params.Goals as goal

pub returns : goal.returns
returns c = ok_as _ _ _ _ _ (Text.header_some c.args.params.now (search (rules, c.is_empty.ensures, c.if-is_empty.false)))
    (ok_behind _ _ _ _ _ _ c.in_ok-put_mark.ensures (ok_behind _ _ _ _ _ _ c.in_ok-put_mark-2.ensures (ok_behind _ _ _ _ _ _ c.in_ok-put_params.ensures c.put_mark-3.ensures)))
