use Rattle.std.proofs.Common.{◌≡◌, ℕ, ◌++◌, List, map, drop}
use Rattle.flat_meaning.specs.Trees.{Selects}
use Rattle.driver_trees.specs.declared.draft.Draft.{Draft}
use Rattle.driver_trees.specs.Presents.{width_in}
use Rattle.driver_trees.specs.Shares.{Share, put_share, ArePuts}
use Rattle.driver_trees.specs.Sketched.{Driven, ArePieces, ArePiecesWith, share_pieces}
use Rattle.driver_trees.proofs.sketch.add_puts.Given as goal

-- the pieces so far and those of the words that are left are all
abbrev pub invariant-loop-put : goal.invariant-loop-put
invariant-loop-put l =
    (wid : ℕ → ℕ) (ds : List Draft) (ss : Selects → List Share) (before : Driven) → ((s : ℕ) → width_in l.present s ≡ wid s) → ArePuts wid ds l.puts ss → ArePieces ds l.initial.pieces.items before
    → ArePiecesWith ds l.pieces.items (λ sel x. share_pieces wid x (map (put_share sel ds) (drop l.put-index l.puts))) (λ sel x. before sel x ++ share_pieces wid x (map (put_share sel ds) l.puts))
