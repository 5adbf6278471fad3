use Rattle.flat_meaning.proofs.Unfolded.{trees_law}
use Rattle.flat_meaning.proofs.laws.trees_are_one.Goals as goal

pub returns : goal.returns
returns c = trees_law
