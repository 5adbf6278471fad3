use Rattle.std.proofs.Common.{rules}
use Rattle.verilog_parse.specs.Texts.{printed_port}
use Rattle.verilog_parse.proofs.TextSteps.{lists_step}
use Rattle.verilog_parse.proofs.text.module.put_ports.Goals as goal

pub loop-at-preserved : goal.loop-at-preserved
loop-at-preserved c = lists_step printed_port c.args.ports.now c.index-ports-at.result c.loop-at.at _ _ _ _ _ _ (search rules) c.index-ports-at.is c.loop-at.invariant c.in_ok-put_comma.ensures c.in_ok-put_port.ensures
