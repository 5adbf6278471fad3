use Rattle.loop_law.proofs.LoopPieces.{pieces_are_met}
use Rattle.loop_law.proofs.pieces_are_met.Goals as goal

pub returns : goal.returns
returns c = pieces_are_met
