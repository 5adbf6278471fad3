use Rattle.flat_meaning.proofs.Law.{clocked_law}
use Rattle.flat_meaning.proofs.laws.clocked_process_has_values.Goals as goal

pub returns : goal.returns
returns c = clocked_law
