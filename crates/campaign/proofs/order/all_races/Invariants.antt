use Rattle.std.proofs.Common.{◌≡◌, ◌++◌, drop, map}
use Rattle.campaign.proofs.order.all_races.Given as goal

abbrev pub invariant-loop-race : goal.invariant-loop-race
invariant-loop-race l = l.races ≡ map (λ r. r.now) l.all.items ++ drop l.race-index l.races
