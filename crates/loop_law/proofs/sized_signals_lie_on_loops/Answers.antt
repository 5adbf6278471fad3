use Rattle.loop_law.proofs.Designs.{sized_signals_on_loops}
use Rattle.loop_law.proofs.sized_signals_lie_on_loops.Goals as goal

pub returns : goal.returns
returns c = sized_signals_on_loops
