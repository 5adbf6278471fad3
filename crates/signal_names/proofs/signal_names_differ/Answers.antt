use Rattle.signal_names.proofs.Visits.{names_differ}
use Rattle.signal_names.proofs.signal_names_differ.Goals as goal

pub returns : goal.returns
returns c = names_differ
