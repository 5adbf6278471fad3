use Rattle.std.proofs.Common.{◌*◌, ◌%◌, ◌^◌, bit_or, get_or, ap, rules}
use Rattle.campaign.proofs.LaneRows.{stored}
use Rattle.campaign.proofs.lanes.joined.Goals as goal

pub loop-i-preserved : goal.loop-i-preserved
loop-i-preserved c = stored (λ k. bit_or (get_or c.args.high k 0 * 2 ^ c.args.by % 2 ^ 64) (get_or c.args.low k 0)) c.loop-i.out c.loop-i.i _ c.loop-i-test.true (ap (λ x. bit_or x (get_or c.args.low c.loop-i.i 0)) (search rules)) c.loop-i.invariant
