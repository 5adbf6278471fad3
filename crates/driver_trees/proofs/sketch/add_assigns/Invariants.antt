use Rattle.std.proofs.Common.{ℕ, ◌++◌, map, drop}
use Rattle.std.specs.List.{AllByRecursion as Each}
use Rattle.flat_meaning.specs.Pieces.{assigned_pieces}
use Rattle.driver_trees.specs.Drafts.{AreDrafts}
use Rattle.driver_trees.specs.Growth.{Grows}
use Rattle.driver_trees.specs.Sketched.{IsIdle, Driven, ArePieces, ArePiecesWith, IsAssignRead, assign_of}
use Rattle.driver_trees.proofs.sketch.add_assigns.Given as goal

-- the pieces so far and those of the assignments that are left are all
abbrev pub invariant-loop-assign : goal.invariant-loop-assign
invariant-loop-assign l =
    (wid : ℕ → ℕ) (before : Driven) → AreDrafts wid l.initial.drafts → IsIdle wid l.present → Each (IsAssignRead wid) l.assigns → ArePieces l.initial.drafts l.initial.pieces.items before
    → Grows wid l.initial.drafts l.drafts × Each (IsAssignRead wid) (drop l.assign-index l.assigns)
    × ArePiecesWith l.drafts l.pieces.items (λ sel x. assigned_pieces wid sel x (map assign_of (drop l.assign-index l.assigns))) (λ sel x. before sel x ++ assigned_pieces wid sel x (map assign_of l.assigns))
