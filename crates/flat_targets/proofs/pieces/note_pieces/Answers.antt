use Rattle.std.proofs.Common.{◌≡◌, ◌++◌, [], Bor, List, ℕ, map, sym, subst, ap, ◌∙◌}
use Rattle.verilog_reading.specs.ExprTree.{join_of, target_tree_of}
use Rattle.flat_form.specs.View.{target_of}
use Rattle.flat_unfolding.specs.Names.{width_at}
use Rattle.flat_unfolding.specs.Formed.{IsTargetFormed}
use Rattle.flat_unfolding.specs.Targets.{aim, piece_rules}
use Rattle.flat_names.specs.Noting.{all_noted}
use Rattle.flat_targets.specs.Aims.{trees_in}
use Rattle.flat_targets.specs.Pieces.{part_names_in}
use Rattle.flat_targets.proofs.Aimed.{ok-then}
use Rattle.flat_targets.proofs.AimedWords.{join-tree}
use Rattle.flat_targets.proofs.PieceRules.{names-noted}
use Rattle.flat_targets.proofs.pieces.note_pieces.Goals as goal

pub returns-in_ok-add_names_of-in-Join : goal.returns-in_ok-add_names_of-in-Join
returns-in_ok-add_names_of-in-Join c = λ l u h is formed e.
    let ts = trees_in c.as_slice.result.now in
    let tree : target_tree_of c.args.target.now ≡ join_of ts = ap target_tree_of c.in-Join.is ∙ join-tree c.in-Join.parts ∙ ap (λ xs. join_of (trees_in xs)) (sym c.as_slice.ensures) in
    ok-then c.note_first.result _ _
    (λ _ k. names-noted l u ts (target_tree_of c.args.target.now) tree c.args.faults.now c.note_first.new.faults formed (target_of c.args.resolved.now) e (map (λ (n : Bor (List ℕ)). n.now) c.as_slice-in-Join.result.now)
    (ap (map (λ (n : Bor (List ℕ)). n.now)) c.as_slice-in-Join.ensures.value ∙ c.in_ok-add_names_of-in-Join.ensures ∙ ap (λ (xs : List (Bor (List ℕ))). map (λ (n : Bor (List ℕ)). n.now) xs ++ part_names_in ts) c.new-names.ensures.items) k)
    (c.note_first.ensures l h is)
