use Rattle.std.proofs.Common.{rules}
use Rattle.verilog_parse.specs.Texts.{printed_label}
use Rattle.verilog_parse.proofs.TextSteps.{lists_step}
use Rattle.verilog_parse.proofs.text.stmt.put_labels.Goals as goal

pub loop-at-preserved : goal.loop-at-preserved
loop-at-preserved c = lists_step printed_label c.args.labels.now c.index-labels-at.result c.loop-at.at _ _ _ _ _ _ (search rules) c.index-labels-at.is c.loop-at.invariant c.in_ok-put_comma.ensures c.in_ok-put_label.ensures
