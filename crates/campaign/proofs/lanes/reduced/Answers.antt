use Rattle.std.proofs.Common.{get_or}
use Rattle.cell_graph.specs.Values.{reduced_word}
use Rattle.campaign.proofs.LaneRows.{stored}
use Rattle.campaign.proofs.lanes.reduced.Goals as goal

pub loop-i-preserved : goal.loop-i-preserved
loop-i-preserved c = stored (λ k. reduced_word c.args.kind c.args.width (get_or c.args.row k 0)) c.loop-i.out c.loop-i.i _ c.loop-i-test.true c.reduced_one.ensures c.loop-i.invariant
