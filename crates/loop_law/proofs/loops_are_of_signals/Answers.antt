use Rattle.loop_law.proofs.Loops.{loops_are_of_signals}
use Rattle.loop_law.proofs.loops_are_of_signals.Goals as goal

pub returns : goal.returns
returns c = loops_are_of_signals
