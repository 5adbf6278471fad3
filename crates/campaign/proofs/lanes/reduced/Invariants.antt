use Rattle.std.proofs.Common.{◌≡◌, ℕ, ◌<◌, get_or, length}
use Rattle.cell_graph.specs.Values.{reduced_word}
use Rattle.campaign.proofs.lanes.reduced.Given as goal

abbrev pub invariant-loop-i : goal.invariant-loop-i
invariant-loop-i l = (length l.out ≡ 8) × ((k : ℕ) → k < l.i → get_or l.out k 0 ≡ reduced_word l.kind l.width (get_or l.row k 0))
