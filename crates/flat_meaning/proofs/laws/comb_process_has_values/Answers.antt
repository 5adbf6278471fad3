use Rattle.flat_meaning.proofs.Law.{comb_law}
use Rattle.flat_meaning.proofs.laws.comb_process_has_values.Goals as goal

pub returns : goal.returns
returns c = comb_law
