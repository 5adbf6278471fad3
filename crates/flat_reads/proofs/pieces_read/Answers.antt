use Rattle.flat_reads.proofs.Pieces.{design_reads}
use Rattle.flat_reads.proofs.pieces_read.Goals as goal

pub returns : goal.returns
returns c = design_reads
