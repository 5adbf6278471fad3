use Rattle.worked_audit.proofs.Audited.{two_flops_are_clean}
use Rattle.worked_audit.proofs.two_flops_are_clean.Goals as goal

pub returns : goal.returns
returns c = two_flops_are_clean
