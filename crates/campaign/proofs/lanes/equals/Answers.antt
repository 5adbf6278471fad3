use Rattle.std.proofs.Common.{◌==◌, cond, get_or, rules}
use Rattle.campaign.proofs.LaneRows.{stored}
use Rattle.campaign.proofs.lanes.equals.Goals as goal

pub loop-i-preserved : goal.loop-i-preserved
loop-i-preserved c = stored (λ k. cond (get_or c.args.a k 0 == get_or c.args.b k 0) 1 0) c.loop-i.out c.loop-i.i _ c.loop-i-test.true (search rules) c.loop-i.invariant
