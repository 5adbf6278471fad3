use Rattle.flat_meaning.proofs.Law.{expression_law}
use Rattle.flat_meaning.proofs.laws.expression_has_value.Goals as goal

pub returns : goal.returns
returns c = expression_law
