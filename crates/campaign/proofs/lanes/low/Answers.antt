use Rattle.std.proofs.Common.{◌%◌, ◌^◌, get_or}
use Rattle.campaign.proofs.LaneRows.{stored}
use Rattle.campaign.proofs.lanes.low.Goals as goal

pub loop-i-preserved : goal.loop-i-preserved
loop-i-preserved c = stored (λ k. get_or c.args.row k 0 % 2 ^ c.args.width) c.loop-i.out c.loop-i.i _ c.loop-i-test.true c.low_bits.ensures c.loop-i.invariant
