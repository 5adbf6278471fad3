use Rattle.std.proofs.Common.{◌≡◌, ℕ, Bool, true, ◌||◌, is_some}
use Rattle.std.specs.Ordering.{nat_cmp}
use Rattle.std.specs.Map.{lookup}
use Rattle.std.specs.BTreeMap.{get, is_at}
use Rattle.cell_graph.specs.Tree.{Tree}
use Rattle.flat_meaning.specs.Trees.{Selects, Trees}
use Rattle.driver_trees.specs.Drafts.{AreDrafts}
use Rattle.driver_trees.specs.Growth.{Grows}
use Rattle.driver_trees.specs.Presents.{is_target}
use Rattle.driver_trees.specs.Changes.{AreChanges, LeavesTrees, IsCondition, chosen}
use Rattle.driver_trees.proofs.present.Present.choose.Given as goal

-- what is chosen and what is left make all choices
abbrev pub invariant-loop-sig : goal.invariant-loop-sig
invariant-loop-sig l =
    (wid : ℕ → ℕ) (p : ℕ → Bool) (t : Selects → Tree) (ts us : Selects → Trees)
    → AreDrafts wid l.initial.drafts → IsCondition l.initial.drafts l.cond t
    → LeavesTrees wid l.initial.drafts l.self l.yes ts → LeavesTrees wid l.initial.drafts l.self l.other us
    → ((x : ℕ) → is_some (get nat_cmp l.some x) ≡ true → is_target l.self x ≡ true)
    → AreChanges wid l.initial.drafts l.initial.merged p (chosen t ts us)
    → Grows wid l.initial.drafts l.drafts × (done : ℕ → Bool) × AreChanges wid l.drafts l.merged done (chosen t ts us)
    × ((x : ℕ) → (done x || is_some (lookup (is_at (nat_cmp x)) l.sig-iterator)) ≡ (p x || is_some (get nat_cmp l.some x)))
