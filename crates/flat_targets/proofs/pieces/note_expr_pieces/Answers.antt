use Rattle.std.proofs.Common.{◌≡◌, ◌++◌, [], Bor, List, ℕ, map, sym, subst, ap, ◌∙◌}
use Rattle.verilog_reading.specs.ExprTree.{tree_of, trees_of}
use Rattle.flat_form.specs.View.{target_of}
use Rattle.flat_unfolding.specs.Targets.{of_wires, as_target, as_targets}
use Rattle.flat_names.proofs.Trees.{tree-join}
use Rattle.flat_targets.specs.Pieces.{part_names_in}
use Rattle.flat_targets.proofs.Aimed.{ok-then}
use Rattle.flat_targets.proofs.Reading.{is-join}
use Rattle.flat_targets.proofs.PieceRules.{names-noted}
use Rattle.flat_targets.proofs.pieces.note_expr_pieces.Goals as goal

pub returns-in_ok-add_expr_names_of-in-Join : goal.returns-in_ok-add_expr_names_of-in-Join
returns-in_ok-add_expr_names_of-in-Join c = λ l v h is formed reads e.
    let es = c.as_slice.result.now in
    let tree = tree-join c.args.expr.now c.in-Join.parts es c.in-Join.is c.as_slice.ensures in
    let group = is-join (as_targets (trees_of (map tree_of es))) v (sym (ap as_target tree) ∙ reads) in
    ok-then c.note_first.result _ _
    (λ _ k. names-noted l of_wires group.parts v group.is c.args.faults.now c.note_first.new.faults formed (target_of c.args.resolved.now) e (map (λ (n : Bor (List ℕ)). n.now) c.as_slice-in-Join.result.now)
    (ap (map (λ (n : Bor (List ℕ)). n.now)) c.as_slice-in-Join.ensures.value ∙ c.in_ok-add_expr_names_of-in-Join.ensures group.parts group.reads ∙ ap (λ (xs : List (Bor (List ℕ))). map (λ (n : Bor (List ℕ)). n.now) xs ++ part_names_in group.parts) c.new-names.ensures.items) k)
    (c.note_first.ensures l h is)
