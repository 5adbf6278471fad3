use Rattle.loop_law.proofs.Loops.{loops_are_segments}
use Rattle.loop_law.proofs.loops_are_segments.Goals as goal

pub returns : goal.returns
returns c = loops_are_segments
