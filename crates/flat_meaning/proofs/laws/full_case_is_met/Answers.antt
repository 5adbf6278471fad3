use Rattle.flat_meaning.proofs.Full.{full_law}
use Rattle.flat_meaning.proofs.laws.full_case_is_met.Goals as goal

pub returns : goal.returns
returns c = full_law
