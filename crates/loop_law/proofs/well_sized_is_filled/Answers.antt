use Rattle.loop_law.proofs.Filled.{well_sized_is_filled}
use Rattle.loop_law.proofs.well_sized_is_filled.Goals as goal

pub returns : goal.returns
returns c = well_sized_is_filled
