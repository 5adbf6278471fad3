-- By recursion on the tree.
use Rattle.cdc_model.proofs.Path.{path_reads}
use Rattle.cdc_model.proofs.laws.paths_read.Goals as goal

pub returns : goal.returns
returns c = path_reads
