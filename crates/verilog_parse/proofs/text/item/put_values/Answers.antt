use Rattle.std.proofs.Common.{rules}
use Rattle.verilog_parse.specs.Texts.{printed_value}
use Rattle.verilog_parse.proofs.TextSteps.{lists_step}
use Rattle.verilog_parse.proofs.text.item.put_values.Goals as goal

pub loop-at-preserved : goal.loop-at-preserved
loop-at-preserved c = lists_step printed_value c.args.values.now c.index-values-at.result c.loop-at.at _ _ _ _ _ _ (search rules) c.index-values-at.is c.loop-at.invariant c.in_ok-put_comma.ensures c.in_ok-put_value.ensures
