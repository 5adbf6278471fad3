use Rattle.flat_unfolding.proofs.Sound.{well_clocked_law}
use Rattle.flat_unfolding.proofs.laws.registers_have_one_clock.Goals as goal

pub returns : goal.returns
returns c = well_clocked_law
