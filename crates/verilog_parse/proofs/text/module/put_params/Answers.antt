use Rattle.std.proofs.Common.{rules}
use Rattle.verilog_parse.specs.Texts.{printed_param}
use Rattle.verilog_parse.proofs.TextSteps.{lists_step}
use Rattle.verilog_parse.proofs.text.module.put_params.Goals as goal

pub loop-at-preserved : goal.loop-at-preserved
loop-at-preserved c = lists_step printed_param c.args.params.now c.index-params-at.result c.loop-at.at _ _ _ _ _ _ (search rules) c.index-params-at.is c.loop-at.invariant c.in_ok-put_comma.ensures c.in_ok-put_param.ensures
