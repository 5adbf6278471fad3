use Rattle.std.proofs.Common.{◌≡◌, map, take}
use Rattle.run_report.proofs.races.by_bit.Given as goal

abbrev pub invariant-loop-race : goal.invariant-loop-race
invariant-loop-race l = map (λ r. r.now) l.sorted.items ≡ take l.race-index l.races
