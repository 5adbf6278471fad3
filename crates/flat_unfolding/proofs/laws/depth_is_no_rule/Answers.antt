use Rattle.flat_unfolding.proofs.Depth.{depth_law}
use Rattle.flat_unfolding.proofs.laws.depth_is_no_rule.Goals as goal

pub returns : goal.returns
returns c = depth_law
