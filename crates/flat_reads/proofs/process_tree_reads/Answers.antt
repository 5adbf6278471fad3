use Rattle.flat_reads.proofs.Laws.{process_reads}
use Rattle.flat_reads.proofs.process_tree_reads.Goals as goal

pub returns : goal.returns
returns c = process_reads
