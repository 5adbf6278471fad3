use Rattle.loop_law.proofs.Loops.{first_loop_is_first}
use Rattle.loop_law.proofs.first_loop_is_first.Goals as goal

pub returns : goal.returns
returns c = first_loop_is_first
