use Rattle.std.proofs.Common.{◌≡◌, ℕ, ◌<◌, ◌==◌, cond, get_or, length}
use Rattle.campaign.proofs.lanes.chosen.Given as goal

abbrev pub invariant-loop-i : goal.invariant-loop-i
invariant-loop-i l = (length l.out ≡ 8) × ((k : ℕ) → k < l.i → get_or l.out k 0 ≡ cond (get_or l.conditions k 0 == 0) (get_or l.other k 0) (get_or l.yes k 0))
