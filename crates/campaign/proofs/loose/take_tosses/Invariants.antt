use Rattle.std.proofs.Common.{◌≡◌, drop}
use Rattle.campaign.specs.Tested.{put_tosses}
use Rattle.campaign.proofs.loose.take_tosses.Given as goal

abbrev pub invariant-loop-toss : goal.invariant-loop-toss
invariant-loop-toss l = put_tosses l.before l.tosses l.initial.words ≡ put_tosses l.before (drop l.toss-index l.tosses) l.words
