use Rattle.std.proofs.Common.{◌≡◌, ◌+◌, true, false, ◌∷◌, map, is_some, drop, sym, ap, ◌∙◌}
use Rattle.std.proofs.lemmas.List.{drop_more}
use Rattle.verilog_ast.specs.declared.Expr.{Expr}
use Rattle.verilog_reading.specs.ExprTree.{join_of, tree_of, trees_of}
use Rattle.flat_unfolding.specs.Targets.{as_target, as_targets}
use Rattle.flat_names.proofs.Trees.{tree-join}
use Rattle.flat_targets.proofs.Reading.{some-map, reads-both}
use Rattle.flat_targets.proofs.target.+is_target.Goals as goal

pub is_target-returns-in-Join : goal.is_target-returns-in-Join
is_target-returns-in-Join t c =
    let es = c.as_slice.result.now in
    let tree = tree-join c.args.expr.now c.in-Join.parts es c.in-Join.is c.as_slice.ensures in
    c.are_targets.ensures ∙ sym (some-map join_of (as_targets (trees_of (map tree_of es)))) ∙ sym (ap (λ e. is_some (as_target e)) tree)

pub are_targets-returns-then-not-is_target : goal.are_targets-returns-then-not-is_target
are_targets-returns-then-not-is_target t c =
    let all = c.args.exprs.now in
    let i = c.loop-expr.expr-index in
    let x = c.expr-item.result in
    let rest = drop (i + 1) all in
    let next : drop i all ≡ x ∷ rest = drop_more all i x c.loop-expr-test.true ∙ ap (λ (z : Expr). z ∷ rest) (sym c.expr-item.is) in
    sym (c.loop-expr.invariant ∙ ap (λ es. is_some (as_targets (trees_of (map tree_of es)))) next ∙ reads-both (tree_of x) (trees_of (map tree_of rest)) false (sym c.if-not-is_target.true ∙ c.is_target.ensures))

pub are_targets-loop-expr-preserved : goal.are_targets-loop-expr-preserved
are_targets-loop-expr-preserved t c =
    let all = c.args.exprs.now in
    let i = c.loop-expr.expr-index in
    let x = c.expr-item.result in
    let rest = drop (i + 1) all in
    let next : drop i all ≡ x ∷ rest = drop_more all i x c.loop-expr-test.true ∙ ap (λ (z : Expr). z ∷ rest) (sym c.expr-item.is) in
    c.loop-expr.invariant ∙ ap (λ es. is_some (as_targets (trees_of (map tree_of es)))) next ∙ reads-both (tree_of x) (trees_of (map tree_of rest)) true (sym c.if-not-is_target.false ∙ c.is_target.ensures)
