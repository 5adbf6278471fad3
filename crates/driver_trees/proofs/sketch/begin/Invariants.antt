use Rattle.std.proofs.Common.{◌≡◌, ℕ, Bool, ◌||◌, is_some}
use Rattle.std.specs.Ordering.{nat_cmp}
use Rattle.std.specs.Map.{lookup}
use Rattle.std.specs.BTreeMap.{get, is_at}
use Rattle.driver_trees.specs.Drafts.{AreDrafts}
use Rattle.driver_trees.specs.Growth.{Grows}
use Rattle.driver_trees.specs.Changes.{IsProcess}
use Rattle.driver_trees.specs.Sketched.{IsIdle, begin_tree}
use Rattle.driver_trees.proofs.sketch.begin.Given as goal

-- what has begun and what is left are all
abbrev pub invariant-loop-sig : goal.invariant-loop-sig
invariant-loop-sig l =
    (l.present.blocking ≡ l.blocking)
    × ((wid : ℕ → ℕ) → AreDrafts wid l.initial.drafts → IsIdle wid l.initial.present → Grows wid l.initial.drafts l.drafts × (done : ℕ → Bool)
    × IsProcess wid l.drafts l.present done (begin_tree l.blocking (λ x. is_some (get nat_cmp l.assigned x)) wid)
    × ((x : ℕ) → (done x || is_some (lookup (is_at (nat_cmp x)) l.sig-iterator)) ≡ is_some (get nat_cmp l.assigned x)))
