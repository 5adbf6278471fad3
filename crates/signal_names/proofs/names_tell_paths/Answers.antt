use Rattle.signal_names.proofs.Cuts.{names_tell_paths}
use Rattle.signal_names.proofs.names_tell_paths.Goals as goal

pub returns : goal.returns
returns c = names_tell_paths
