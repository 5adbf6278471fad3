use Rattle.loop_law.proofs.Walks.{first_mark_is_first}
use Rattle.loop_law.proofs.first_mark_is_first.Goals as goal

pub returns : goal.returns
returns c = first_mark_is_first
