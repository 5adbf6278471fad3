use Rattle.reset_reads.proofs.Unread.{resets_are_unread}
use Rattle.reset_reads.proofs.resets_are_unread.Goals as goal

pub returns : goal.returns
returns c = resets_are_unread
