use Rattle.std.proofs.Common.{rules}
use Rattle.verilog_parse.specs.Texts.{printed_item}
use Rattle.verilog_parse.proofs.TextSteps.{rows_step}
use Rattle.verilog_parse.proofs.text.module.put_items.Goals as goal

pub loop-item-preserved : goal.loop-item-preserved
loop-item-preserved c = rows_step printed_item c.args.items.now c.item-item.result c.loop-item.item-index _ _ _ _ (search rules) c.item-item.is c.loop-item.invariant c.in_ok-put_item.ensures
