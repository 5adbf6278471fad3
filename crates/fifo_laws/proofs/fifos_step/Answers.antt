use Rattle.fifo_laws.proofs.Step.{all_kept}
use Rattle.fifo_laws.proofs.fifos_step.Goals as goal

pub returns : goal.returns
returns c = λ d tree t syncs grays rings fifos lists are past edges new run keeps facts calm whole. all_kept d tree t syncs grays rings lists past edges new run.1 facts calm whole fifos are keeps
