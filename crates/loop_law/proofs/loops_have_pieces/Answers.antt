use Rattle.loop_law.proofs.LoopPieces.{loops_have_pieces}
use Rattle.loop_law.proofs.loops_have_pieces.Goals as goal

pub returns : goal.returns
returns c = loops_have_pieces
