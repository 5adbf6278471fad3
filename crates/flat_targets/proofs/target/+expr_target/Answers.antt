use Rattle.std.proofs.Common.{◌≡◌, ◌+◌, [], ◌∷◌, map, drop, sym, ap, subst, ◌∙◌}
use Rattle.std.proofs.lemmas.List.{drop_more, drop_all}
use Rattle.verilog_ast.specs.declared.Expr.{Expr}
use Rattle.verilog_reading.specs.ExprTree.{tree_of, trees_of}
use Rattle.flat_unfolding.specs.Targets.{of_wires, aims, as_target, as_targets}
use Rattle.flat_unfolding.specs.Formed.{IsFormed}
use Rattle.flat_names.proofs.Trees.{tree-join}
use Rattle.flat_targets.proofs.Aimed.{ok-then}
use Rattle.flat_targets.proofs.AimedWords.{join-gives}
use Rattle.flat_targets.proofs.Reading.{is-join, ReadsSoFar, reads-more, reads-all}
use Rattle.flat_targets.proofs.target.+expr_target.Goals as goal

pub expr_target-returns-in_ok-parts-in-Join : goal.expr_target-returns-in_ok-parts-in-Join
expr_target-returns-in_ok-parts-in-Join t c = λ l v h is formed reads.
    let es = c.as_slice.result.now in
    let tree = tree-join c.args.expr.now c.in-Join.parts es c.in-Join.is c.as_slice.ensures in
    let group = is-join (as_targets (trees_of (map tree_of es))) v (sym (ap as_target tree) ∙ reads) in
    let g = c.in_ok-parts-in-Join.ensures l group.parts h is (subst IsFormed tree formed).1 group.reads in
    ok-then c.joined.result _ _ (λ r k. join-gives l of_wires group.parts v group.is c.args.faults.now c.expr_targets.new.faults c.joined.new.faults c.in_ok-parts-in-Join.parts g r k)
    (c.joined.ensures (aims l of_wires group.parts) g.are)

pub expr_targets-loop-expr-preserved : goal.expr_targets-loop-expr-preserved
expr_targets-loop-expr-preserved t c = λ l ts h is formed reads.
    let all = c.args.exprs.now in
    let i = c.loop-expr.expr-index in
    let x = c.expr-item.result in
    let rest = drop (i + 1) all in
    let next : drop i all ≡ x ∷ rest = drop_more all i x c.loop-expr-test.true ∙ ap (λ (z : Expr). z ∷ rest) (sym c.expr-item.is) in
    let before = subst (λ es. ReadsSoFar l ts (trees_of (map tree_of es)) c.args.faults.now c.loop-expr.faults c.loop-expr.parts) next (c.loop-expr.invariant l ts h is formed reads) in
    reads-more l ts (tree_of x) (trees_of (map tree_of rest)) c.args.faults.now c.loop-expr.faults c.expr_target.new.faults c.loop-expr.parts c.add.new.self c.in_ok-part.part before
    (λ v e. c.in_ok-part.ensures l v h is before.formed.0 e) c.in_ok-add.ensures

pub expr_targets-returns : goal.expr_targets-returns
expr_targets-returns t c = λ l ts h is formed reads.
    let all = c.args.exprs.now in
    let i = c.loop-expr.expr-index in
    let none : drop i all ≡ [] = drop_all i all c.loop-expr-test.false in
    reads-all l ts c.args.faults.now c.loop-expr.faults c.loop-expr.parts (subst (λ es. ReadsSoFar l ts (trees_of (map tree_of es)) c.args.faults.now c.loop-expr.faults c.loop-expr.parts) none (c.loop-expr.invariant l ts h is formed reads))
