use Rattle.flat_model.proofs.Meanings.{sound_meaning}
use Rattle.flat_model.proofs.sound_net_is_sound_design.Goals as goal

pub returns : goal.returns
returns c = sound_meaning
