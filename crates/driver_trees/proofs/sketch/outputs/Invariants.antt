use Rattle.std.proofs.Common.{◌≡◌, ℕ, ◌≤◌, ◌++◌, All, map, drop, vec_len}
use Rattle.std.specs.List.{AllByRecursion as Each}
use Rattle.cell_graph.specs.declared.cell.CellId.{CellId}
use Rattle.flat_meaning.specs.Trees.{Selects}
use Rattle.driver_trees.specs.Drafts.{tree_in, width_at, AreDrafts, IsDraftOf}
use Rattle.driver_trees.specs.Growth.{Grows}
use Rattle.driver_trees.specs.Sketched.{IsIdle}
use Rattle.driver_trees.proofs.sketch.outputs.Given as goal

-- the trees so far and the signals that are left are all
abbrev pub invariant-loop-sig : goal.invariant-loop-sig
invariant-loop-sig l =
    (vec_len l.trees ≡ l.sig-index)
    × ((wid : ℕ → ℕ) → AreDrafts wid l.initial.drafts → IsIdle wid l.present → Each (λ s. 1 ≤ wid s) l.outputs
    → Grows wid l.initial.drafts l.drafts × Each (λ s. 1 ≤ wid s) (drop l.sig-index l.outputs) × All (λ (id : CellId). IsDraftOf l.drafts id (width_at l.drafts id)) l.trees.items
    × ((sel : Selects) → map (tree_in sel l.drafts) l.trees.items ++ map (λ s. sel s 0 (wid s)) (drop l.sig-index l.outputs) ≡ map (λ s. sel s 0 (wid s)) l.outputs))
