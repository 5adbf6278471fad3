use Rattle.fifo_laws.proofs.Start.{all_start}
use Rattle.fifo_laws.proofs.fifos_start.Goals as goal

pub returns : goal.returns
returns c = λ d tree t syncs grays fifos lists are s first. all_start d s first tree t syncs grays lists fifos are
