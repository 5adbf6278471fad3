use Rattle.loop_law.proofs.Designs.{sized_first_loop_is_first}
use Rattle.loop_law.proofs.sized_first_loop_is_first.Goals as goal

pub returns : goal.returns
returns c = sized_first_loop_is_first
