use Rattle.flat_meaning.proofs.Elaboration.{law_of_elaboration}
use Rattle.flat_meaning.proofs.laws.design_is_elaborated.Goals as goal

pub returns : goal.returns
returns c = law_of_elaboration
