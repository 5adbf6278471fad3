use Rattle.std.proofs.Common.{◌≡◌, length}
use Rattle.campaign.specs.Rows.{AreWordsIn}
use Rattle.campaign.proofs.rows.put_words.Given as goal

abbrev pub invariant-loop-index : goal.invariant-loop-index
invariant-loop-index l = record {
  long : length l.rows ≡ length l.initial.rows;
  put : AreWordsIn l.runs l.index l.rows;
}
