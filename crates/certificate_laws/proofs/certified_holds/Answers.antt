use Rattle.certificate_laws.proofs.Holds.{certified-holds}
use Rattle.certificate_laws.proofs.certified_holds.Goals as goal

pub returns : goal.returns
returns c = certified-holds
