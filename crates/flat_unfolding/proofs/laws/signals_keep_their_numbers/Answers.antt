use Rattle.flat_unfolding.proofs.Visits.{numbers_law}
use Rattle.flat_unfolding.proofs.laws.signals_keep_their_numbers.Goals as goal

pub returns : goal.returns
returns c = numbers_law
