use Rattle.flat_unfolding.proofs.Visits.{limits_law}
use Rattle.flat_unfolding.proofs.laws.limits_are_kept.Goals as goal

pub returns : goal.returns
returns c = limits_law
