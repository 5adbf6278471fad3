use Rattle.std.proofs.Common.{◌≡◌, ◌++◌, drop}
use Rattle.campaign.specs.Campaign.{races_before}
use Rattle.campaign.proofs.races.add_before.Given as goal

abbrev pub invariant-loop-toss : goal.invariant-loop-toss
invariant-loop-toss l = l.initial.races ++ races_before l.bit l.tosses ≡ l.races ++ races_before l.bit (drop l.toss-index l.tosses)
