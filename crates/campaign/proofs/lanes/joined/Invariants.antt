use Rattle.std.proofs.Common.{◌≡◌, ℕ, ◌*◌, ◌%◌, ◌^◌, ◌<◌, bit_or, get_or, length}
use Rattle.campaign.proofs.lanes.joined.Given as goal

abbrev pub invariant-loop-i : goal.invariant-loop-i
invariant-loop-i l = (length l.out ≡ 8) × ((k : ℕ) → k < l.i → get_or l.out k 0 ≡ bit_or (get_or l.high k 0 * 2 ^ l.by % 2 ^ 64) (get_or l.low k 0))
