use Rattle.std.proofs.Common.{ℕ, ◌++◌, map, drop}
use Rattle.std.specs.List.{AllByRecursion as Each}
use Rattle.flat_form.specs.declared.flat.FlatComb.{FlatComb}
use Rattle.flat_form.specs.View.{stmt_of}
use Rattle.flat_meaning.specs.Pieces.{all_comb_pieces}
use Rattle.driver_trees.specs.Drafts.{AreDrafts}
use Rattle.driver_trees.specs.Growth.{Grows}
use Rattle.driver_trees.specs.Statements.{IsStmtRead}
use Rattle.driver_trees.specs.Sketched.{IsIdle, Driven, ArePieces, ArePiecesWith}
use Rattle.driver_trees.proofs.sketch.add_combs.Given as goal

-- the pieces so far and those of the processes that are left are all
abbrev pub invariant-loop-process : goal.invariant-loop-process
invariant-loop-process l =
    (wid : ℕ → ℕ) (before : Driven) → AreDrafts wid l.initial.drafts → IsIdle wid l.initial.present → Each (λ (p : FlatComb). IsStmtRead wid p.body) l.processes → ArePieces l.initial.drafts l.initial.pieces.items before
    → Grows wid l.initial.drafts l.drafts × IsIdle wid l.present × Each (λ (p : FlatComb). IsStmtRead wid p.body) (drop l.process-index l.processes)
    × ArePiecesWith l.drafts l.pieces.items (λ sel x. all_comb_pieces wid sel x (map (λ (p : FlatComb). stmt_of p.body) (drop l.process-index l.processes)))
    (λ sel x. before sel x ++ all_comb_pieces wid sel x (map (λ (p : FlatComb). stmt_of p.body) l.processes))
