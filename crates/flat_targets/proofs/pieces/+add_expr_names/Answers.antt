use Rattle.std.proofs.Common.{◌≡◌, ◌+◌, ◌++◌, [], ◌∷◌, Bor, List, ℕ, map, drop, sym, ap, subst, ◌∙◌}
use Rattle.std.proofs.lemmas.List.{drop_more, drop_all}
use Rattle.verilog_ast.specs.declared.Expr.{Expr}
use Rattle.verilog_reading.specs.ExprTree.{tree_of, trees_of}
use Rattle.flat_unfolding.specs.Targets.{as_target, as_targets}
use Rattle.flat_names.proofs.Trees.{tree-join}
use Rattle.flat_targets.specs.Pieces.{part_names}
use Rattle.flat_targets.proofs.Aimed.{ok-then}
use Rattle.flat_targets.proofs.Reading.{is-join}
use Rattle.flat_targets.proofs.PieceRules.{NamesLeft, names-more, names-end}
use Rattle.flat_targets.proofs.pieces.+add_expr_names.Goals as goal

pub add_expr_names-returns-in-Join : goal.add_expr_names-returns-in-Join
add_expr_names-returns-in-Join t c = λ v reads.
    let es = c.as_slice.result.now in
    let tree = tree-join c.args.expr.now c.in-Join.parts es c.in-Join.is c.as_slice.ensures in
    let group = is-join (as_targets (trees_of (map tree_of es))) v (sym (ap as_target tree) ∙ reads) in
    ok-then c.add_expr_names_of.result _ _ (λ _ k. k ∙ ap (λ z. map (λ (n : Bor (List ℕ)). n.now) c.args.names.now.items ++ part_names z) (sym group.is)) (c.add_expr_names_of.ensures group.parts group.reads)

pub add_expr_names_of-loop-expr-preserved : goal.add_expr_names_of-loop-expr-preserved
add_expr_names_of-loop-expr-preserved t c = λ ts reads.
    let f = λ (n : Bor (List ℕ)). n.now in
    let all = c.args.exprs.now in
    let i = c.loop-expr.expr-index in
    let x = c.expr-item.result in
    let rest = drop (i + 1) all in
    let next : drop i all ≡ x ∷ rest = drop_more all i x c.loop-expr-test.true ∙ ap (λ (z : Expr). z ∷ rest) (sym c.expr-item.is) in
    let before = subst (λ es. NamesLeft (trees_of (map tree_of all)) (trees_of (map tree_of es)) ts (map f c.args.names.now.items) (map f c.loop-expr.names.items)) next (c.loop-expr.invariant ts reads) in
    names-more (trees_of (map tree_of all)) (tree_of x) (trees_of (map tree_of rest)) ts (map f c.args.names.now.items) (map f c.loop-expr.names.items) (map f c.add_expr_names.new.names.items) before (λ v e. c.in_ok-add_expr_names.ensures v e)

pub add_expr_names_of-returns : goal.add_expr_names_of-returns
add_expr_names_of-returns t c = λ ts reads.
    let f = λ (n : Bor (List ℕ)). n.now in
    let all = c.args.exprs.now in
    let i = c.loop-expr.expr-index in
    let none : drop i all ≡ [] = drop_all i all c.loop-expr-test.false in
    names-end (trees_of (map tree_of all)) ts (map f c.args.names.now.items) (map f c.loop-expr.names.items)
    (subst (λ es. NamesLeft (trees_of (map tree_of all)) (trees_of (map tree_of es)) ts (map f c.args.names.now.items) (map f c.loop-expr.names.items)) none (c.loop-expr.invariant ts reads))
