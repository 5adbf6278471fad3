use Rattle.std.proofs.Common.{◌*◌, ◌%◌, ◌^◌, get_or}
use Rattle.campaign.proofs.LaneRows.{stored}
use Rattle.campaign.proofs.lanes.moved_up.Goals as goal

pub loop-i-preserved : goal.loop-i-preserved
loop-i-preserved c = stored (λ k. get_or c.args.a k 0 * 2 ^ get_or c.args.by k 0 % 2 ^ 64) c.loop-i.out c.loop-i.i _ c.loop-i-test.true c.shifted_left.ensures c.loop-i.invariant
