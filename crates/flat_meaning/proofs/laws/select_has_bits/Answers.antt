use Rattle.flat_meaning.proofs.Pieces.{select_law}
use Rattle.flat_meaning.proofs.laws.select_has_bits.Goals as goal

pub returns : goal.returns
returns c = select_law
