use Rattle.worked_audit.proofs.Crossing.{is_judged}
use Rattle.worked_audit.proofs.net_is_judged.Goals as goal

pub returns : goal.returns
returns c = is_judged
