use Rattle.std.proofs.Common.{rules}
use Rattle.verilog_parse.specs.Texts.{printed_module}
use Rattle.verilog_parse.proofs.TextSteps.{adds_as, rows_step, rows_end}
use Rattle.verilog_parse.proofs.ItemTexts as Text
use Rattle.verilog_parse.proofs.text.module.put_source.Goals as goal

pub loop-module-preserved : goal.loop-module-preserved
loop-module-preserved c = rows_step printed_module c.as_slice-module-items.result.now c.module-item.result c.loop-module.module-index _ _ _ _ (search rules) c.module-item.is c.loop-module.invariant
    c.in_ok-put_module.ensures

pub returns : goal.returns
returns c = adds_as _ _ _ _ (Text.source_printed c.args.source.now _ c.as_slice-module-items.ensures)
    (rows_end printed_module c.as_slice-module-items.result.now c.loop-module.module-index _ _ (search rules) c.loop-module.invariant)
