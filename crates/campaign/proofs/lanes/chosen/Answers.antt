use Rattle.std.proofs.Common.{◌==◌, cond, get_or, rules}
use Rattle.campaign.proofs.LaneRows.{stored}
use Rattle.campaign.proofs.lanes.chosen.Goals as goal
use Rattle.campaign.proofs.lanes.chosen.Goals.{then-conditions-i-eq0, else-conditions-i-eq0}

pub loop-i-preserved : goal.loop-i-preserved
loop-i-preserved c = stored (λ k. cond (get_or c.args.conditions k 0 == 0) (get_or c.args.other k 0) (get_or c.args.yes k 0)) c.loop-i.out c.loop-i.i _ c.loop-i-test.true (elim c.if-conditions-i-eq0.branch [ then-conditions-i-eq0 w ↦ search rules | else-conditions-i-eq0 w ↦ search rules ]) c.loop-i.invariant
