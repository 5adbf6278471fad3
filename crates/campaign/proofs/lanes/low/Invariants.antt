use Rattle.std.proofs.Common.{◌≡◌, ℕ, ◌%◌, ◌^◌, ◌<◌, get_or, length}
use Rattle.campaign.proofs.lanes.low.Given as goal

abbrev pub invariant-loop-i : goal.invariant-loop-i
invariant-loop-i l = (length l.out ≡ 8) × ((k : ℕ) → k < l.i → get_or l.out k 0 ≡ get_or l.row k 0 % 2 ^ l.width)
