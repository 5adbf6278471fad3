use Rattle.loop_law.proofs.Designs.{sized_loops_are_segments}
use Rattle.loop_law.proofs.sized_loops_are_segments.Goals as goal

pub returns : goal.returns
returns c = sized_loops_are_segments
