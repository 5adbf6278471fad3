use Rattle.fifo_parts.proofs.Alike.{same_term}
use Rattle.fifo_parts.proofs.words.are_alike.Goals as goal

pub are_equal-requires : goal.are_equal-requires
are_equal-requires c = same_term
