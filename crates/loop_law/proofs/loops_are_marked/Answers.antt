use Rattle.loop_law.proofs.Walks.{loops_are_marked}
use Rattle.loop_law.proofs.loops_are_marked.Goals as goal

pub returns : goal.returns
returns c = loops_are_marked
