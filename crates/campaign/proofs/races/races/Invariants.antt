use Rattle.std.proofs.Common.{◌≡◌, ◌++◌, drop, map}
use Rattle.campaign.specs.Drawn.{race_of_toss}
use Rattle.campaign.proofs.races.races.Given as goal

abbrev pub invariant-loop-toss : goal.invariant-loop-toss
invariant-loop-toss l = map race_of_toss l.tosses ≡ l.races ++ map race_of_toss (drop l.toss-index l.tosses)
