use Rattle.flat_unfolding.proofs.First.{one_is_told, first_is_told}
use Rattle.flat_unfolding.proofs.laws.first_rule_is_told.Goals as goal

pub returns-clause-one : goal.returns-clause-one
returns-clause-one c = one_is_told

pub returns-clause-first : goal.returns-clause-first
returns-clause-first c = first_is_told
