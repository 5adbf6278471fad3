use Rattle.std.proofs.Common.{◌∙◌, ◌/◌, ◌%◌, ◌^◌, get_or, ap, rules}
use Rattle.campaign.proofs.LaneRows.{stored}
use Rattle.campaign.proofs.lanes.sliced.Goals as goal

pub loop-i-preserved : goal.loop-i-preserved
loop-i-preserved c = stored (λ k. get_or c.args.row k 0 / 2 ^ c.args.at % 2 ^ c.args.width) c.loop-i.out c.loop-i.i _ c.loop-i-test.true (c.low_bits.ensures ∙ ap (λ x. x % 2 ^ c.args.width) (search rules)) c.loop-i.invariant
