use Rattle.std.proofs.Common.{rules}
use Rattle.verilog_parse.specs.Pieces.{edge_pieces}
use Rattle.verilog_parse.proofs.TextSteps.{lists_step}
use Rattle.verilog_parse.proofs.text.item.put_edges.Goals as goal

pub loop-at-preserved : goal.loop-at-preserved
loop-at-preserved c = lists_step edge_pieces c.args.edges.now c.index-edges-at.result c.loop-at.at _ _ _ _ _ _ (search rules) c.index-edges-at.is c.loop-at.invariant c.in_ok-put_or.ensures c.in_ok-put_edge.ensures
