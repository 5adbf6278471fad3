use Rattle.found_names.proofs.Designs.{designs-are-found}
use Rattle.found_names.proofs.designs_are_found.Goals as goal

pub returns : goal.returns
returns c = designs-are-found
