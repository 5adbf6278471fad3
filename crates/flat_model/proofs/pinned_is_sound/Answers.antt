use Rattle.flat_model.proofs.PinnedSound.{pinned_is_sound}
use Rattle.flat_model.proofs.pinned_is_sound.Goals as goal

pub returns : goal.returns
returns c = pinned_is_sound
