use Rattle.worked_audit.proofs.Constraints.{constraints_are_said}
use Rattle.worked_audit.proofs.constraints_are_said.Goals as goal

pub returns : goal.returns
returns c = constraints_are_said
