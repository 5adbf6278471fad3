use Rattle.loop_law.proofs.Walks.{walks_meet_loops}
use Rattle.loop_law.proofs.walks_meet_loops.Goals as goal

pub returns : goal.returns
returns c = walks_meet_loops
