use Rattle.flat_unfolding.proofs.Sound.{sound_law}
use Rattle.flat_unfolding.proofs.laws.unfoldings_are_sound.Goals as goal

pub returns : goal.returns
returns c = sound_law
