use Rattle.std.proofs.Common.{ℕ, vec_len}
use Rattle.driver_trees.specs.Drafts.{AreDrafts, IsDraftOf}
use Rattle.driver_trees.specs.Choices.{AreChoices}
use Rattle.driver_trees.proofs.Around.{IsChosen}
use Rattle.driver_trees.proofs.expr.chosen.Given as goal

abbrev pub decreases-loop-choice : goal.decreases-loop-choice
decreases-loop-choice l = vec_len l.left

abbrev pub invariant-loop-choice : goal.invariant-loop-choice
invariant-loop-choice l = (wid : ℕ → ℕ) (w : ℕ) → AreDrafts wid l.initial.drafts → IsDraftOf l.initial.drafts l.fn.innermost w → AreChoices l.initial.drafts w l.fn.around.items
    → IsChosen wid l.initial.drafts l.drafts w l.fn.innermost l.fn.around.items l.left.items l.word
