use Rattle.signal_names.proofs.Sources.{parsed_are_visible}
use Rattle.signal_names.proofs.parsed_names_are_visible.Goals as goal

pub returns : goal.returns
returns c = parsed_are_visible
