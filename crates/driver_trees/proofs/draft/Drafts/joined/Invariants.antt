use Rattle.std.proofs.Common.{ℕ, ◌≤◌, vec_len}
use Rattle.driver_trees.specs.Drafts.{AreDrafts}
use Rattle.driver_trees.specs.Growth.{AreIn, joined_bits}
use Rattle.driver_trees.proofs.Joining.{IsJoined}
use Rattle.driver_trees.proofs.draft.Drafts.joined.Given as goal

abbrev pub decreases-loop-word : goal.decreases-loop-word
decreases-loop-word l = vec_len l.left

abbrev pub invariant-loop-word : goal.invariant-loop-word
invariant-loop-word l = (wid : ℕ → ℕ) → AreDrafts wid l.initial.self → AreIn l.initial.self l.fn.words.items → joined_bits l.initial.self l.fn.words.items ≤ 64 → IsJoined wid l.initial.self l.self l.fn.words.items l.left.items l.whole
