use Rattle.std.proofs.Common.{◌≡◌, ◌++◌, drop}
use Rattle.campaign.specs.Campaign.{races_behind}
use Rattle.campaign.proofs.races.add_behind.Given as goal

abbrev pub invariant-loop-toss : goal.invariant-loop-toss
invariant-loop-toss l = l.initial.races ++ races_behind l.bit l.tosses ≡ l.races ++ races_behind l.bit (drop l.toss-index l.tosses)
