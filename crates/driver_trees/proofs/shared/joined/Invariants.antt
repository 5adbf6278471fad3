use Rattle.std.proofs.Common.{◌≡◌, ℕ, ◌+◌, ◌≤◌}
use Rattle.flat_meaning.specs.Trees.{Selects}
use Rattle.flat_meaning.specs.SignalTrees.{with_bits, joined_runs}
use Rattle.driver_trees.specs.Drafts.{AreDrafts}
use Rattle.driver_trees.specs.Growth.{Grows}
use Rattle.driver_trees.specs.Givers.{Words, AreGiven, IsOpen, low_tree}
use Rattle.driver_trees.proofs.shared.joined.Given as goal

-- the run that has begun, with the bits that are left above it, is the whole
abbrev pub invariant-loop-at : goal.invariant-loop-at
invariant-loop-at l =
    (wid : ℕ → ℕ) (words : Words) (giver : ℕ → ℕ) → AreDrafts wid l.initial.drafts → l.width ≡ wid l.sig → 1 ≤ l.width → l.width ≤ 64 → AreGiven wid l.initial.drafts l.sig l.givers words giver
    → Grows wid l.initial.drafts l.drafts × IsOpen l.drafts l.run l.at
    × ((sel : Selects) (n : ℕ) → n + l.at ≡ wid l.sig → with_bits (wid l.sig) (words sel) giver n l.run.from l.at l.run.giver (low_tree sel l.drafts l.run) ≡ joined_runs (wid l.sig) (words sel) giver)
