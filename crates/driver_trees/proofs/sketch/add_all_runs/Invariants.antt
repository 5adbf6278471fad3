use Rattle.std.proofs.Common.{ℕ, cond, ◌==◌, ◌++◌, [], List, map, drop}
use Rattle.std.specs.List.{AllByRecursion as Each}
use Rattle.flat_meaning.specs.Trees.{Selects, Trees}
use Rattle.flat_meaning.specs.Pieces.{run_pieces}
use Rattle.driver_trees.specs.declared.draft.Draft.{Draft}
use Rattle.driver_trees.specs.Changes.{IsWordOf}
use Rattle.driver_trees.specs.Collected.{run_of, IsRunIn}
use Rattle.driver_trees.specs.Sketched.{Driven, ArePieces, ArePiecesWith}
use Rattle.driver_trees.proofs.sketch.add_all_runs.Given as goal

-- the pieces so far and those of the runs that are left are all
abbrev pub invariant-loop-run : goal.invariant-loop-run
invariant-loop-run l =
    (wid : ℕ → ℕ) (ds : List Draft) (ts : Selects → Trees) (before : Driven) → IsWordOf wid ds l.tree l.sig ts → Each (IsRunIn (wid l.sig)) (map run_of l.runs) → ArePieces ds l.initial.pieces.items before
    → Each (IsRunIn (wid l.sig)) (map run_of (drop l.run-index l.runs))
    × ArePiecesWith ds l.pieces.items (λ sel x. cond (x == l.sig) (run_pieces (wid l.sig) (ts sel l.sig) (map run_of (drop l.run-index l.runs))) [])
    (λ sel x. before sel x ++ cond (x == l.sig) (run_pieces (wid l.sig) (ts sel l.sig) (map run_of l.runs)) [])
