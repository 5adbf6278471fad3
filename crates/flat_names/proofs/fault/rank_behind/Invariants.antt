use Rattle.std.proofs.Common.{◌≡◌, ◌+◌, drop}
use Rattle.flat_unfolding.specs.Outcome.{as_listed}
use Rattle.flat_names.proofs.fault.rank_behind.Given as goal

abbrev pub invariant-loop-other : goal.invariant-loop-other
invariant-loop-other l = (l.rank ≡ l.other-index) × (as_listed l.listed l.number ≡ l.rank + as_listed (drop l.other-index l.listed) l.number)
