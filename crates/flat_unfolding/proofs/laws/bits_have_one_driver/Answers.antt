use Rattle.flat_unfolding.proofs.Visits.{one_driver_law}
use Rattle.flat_unfolding.proofs.laws.bits_have_one_driver.Goals as goal

pub returns : goal.returns
returns c = one_driver_law
