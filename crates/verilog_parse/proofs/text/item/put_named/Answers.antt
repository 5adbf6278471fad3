use Rattle.std.proofs.Common.{rules}
use Rattle.verilog_parse.specs.Texts.{printed_conn}
use Rattle.verilog_parse.proofs.TextSteps.{lists_step}
use Rattle.verilog_parse.proofs.text.item.put_named.Goals as goal

pub loop-at-preserved : goal.loop-at-preserved
loop-at-preserved c = lists_step printed_conn c.args.conns.now c.index-conns-at.result c.loop-at.at _ _ _ _ _ _ (search rules) c.index-conns-at.is c.loop-at.invariant c.in_ok-put_comma.ensures c.in_ok-put_conn.ensures
