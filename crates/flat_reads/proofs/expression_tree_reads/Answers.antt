use Rattle.flat_reads.proofs.Laws.{expression_reads}
use Rattle.flat_reads.proofs.expression_tree_reads.Goals as goal

pub returns : goal.returns
returns c = expression_reads
