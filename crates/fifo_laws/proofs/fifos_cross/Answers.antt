use Rattle.fifo_laws.proofs.Cross.{all_cross}
use Rattle.fifo_laws.proofs.fifos_cross.Goals as goal

pub returns : goal.returns
returns c = λ d tree t syncs grays fifos lists are b x h. all_cross d tree t syncs grays lists fifos are b x h
