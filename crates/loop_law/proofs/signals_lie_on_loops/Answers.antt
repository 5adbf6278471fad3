use Rattle.loop_law.proofs.Loops.{signals_on_loops}
use Rattle.loop_law.proofs.signals_lie_on_loops.Goals as goal

pub returns : goal.returns
returns c = signals_on_loops
