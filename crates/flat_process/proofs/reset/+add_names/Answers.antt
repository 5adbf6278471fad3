use Rattle.std.proofs.Common.{◌≡◌, ◌+◌, [], ◌∷◌, ◌++◌, map, drop, sym, ap, subst, ◌∙◌}
use Rattle.std.proofs.lemmas.List.{drop_more}
use Rattle.verilog_ast.specs.declared.Expr.{Expr}
use Rattle.verilog_reading.specs.ExprTree.{tree_of, trees_of}
use Rattle.flat_unfolding.specs.Mentions.{names_in, all_names_in}
use Rattle.flat_unfolding.specs.Resets.{signals_among}
use Rattle.flat_names.proofs.Options.{ok-map}
use Rattle.flat_names.proofs.Trees.{tree-index, tree-part, tree-binary, tree-choice, tree-repeat}
use Rattle.flat_process.specs.Resets.{signals_of, joined}
use Rattle.flat_process.proofs.ResetSignals.{then-among, among-step}
use Rattle.flat_process.proofs.reset.+add_names.Goals as goal

pub add_names-returns-in_ok-add-in-At : goal.add_names-returns-in_ok-add-in-At
add_names-returns-in_ok-add-in-At t c = λ l shows.
    let i = c.in-At in
    let a = c.deref.result.now in
    let old = signals_of c.args.signals.now in
    let tree = tree-index c.args.expr.now i.name i.index a i.is c.deref.ensures in
    ok-map c.add_names.result
    (λ x h. then-among l old (signals_of c.add-in-At.new.self) (signals_of c.add_names.new.signals) (i.name ∷ []) (names_in (tree_of a)) (c.in_ok-add-in-At.ensures l shows) h
    ∙ ap (λ v. joined old (signals_among l (names_in v))) (sym tree))
    (c.add_names.ensures l shows)

pub add_names-returns-in_ok-add_names-in-Part : goal.add_names-returns-in_ok-add_names-in-Part
add_names-returns-in_ok-add_names-in-Part t c = λ l shows.
    let i = c.in-Part in
    let a = c.deref-in-Part.result.now in
    let b = c.deref-in-Part-2.result.now in
    let old = signals_of c.args.signals.now in
    let first = signals_of c.add-in-Part.new.self in
    let second = signals_of c.add_names-in-Part.new.signals in
    let third = signals_of c.add_names-in-Part-2.new.signals in
    let tree = tree-part c.args.expr.now i.name i.kind i.left i.right a b i.is c.deref-in-Part.ensures c.deref-in-Part-2.ensures in
    let two = then-among l old first second (i.name ∷ []) (names_in (tree_of a)) (c.in_ok-add-in-Part.ensures l shows) (c.in_ok-add_names-in-Part.ensures l shows) in
    ok-map c.add_names-in-Part-2.result
    (λ x h. then-among l old second third (i.name ∷ names_in (tree_of a)) (names_in (tree_of b)) two h ∙ ap (λ v. joined old (signals_among l (names_in v))) (sym tree))
    (c.add_names-in-Part-2.ensures l shows)

pub add_names-returns-in_ok-add_names-in-Binary : goal.add_names-returns-in_ok-add_names-in-Binary
add_names-returns-in_ok-add_names-in-Binary t c = λ l shows.
    let i = c.in-Binary in
    let a = c.deref-in-Binary.result.now in
    let b = c.deref-in-Binary-2.result.now in
    let old = signals_of c.args.signals.now in
    let first = signals_of c.add_names-in-Binary.new.signals in
    let second = signals_of c.add_names-in-Binary-2.new.signals in
    let tree = tree-binary c.args.expr.now i.op i.a i.b a b i.is c.deref-in-Binary.ensures c.deref-in-Binary-2.ensures in
    ok-map c.add_names-in-Binary-2.result
    (λ x h. then-among l old first second (names_in (tree_of a)) (names_in (tree_of b)) (c.in_ok-add_names-in-Binary.ensures l shows) h ∙ ap (λ v. joined old (signals_among l (names_in v))) (sym tree))
    (c.add_names-in-Binary-2.ensures l shows)

pub add_names-returns-in_ok-add_names-in-Choose-2 : goal.add_names-returns-in_ok-add_names-in-Choose-2
add_names-returns-in_ok-add_names-in-Choose-2 t c = λ l shows.
    let i = c.in-Choose in
    let a = c.deref-in-Choose.result.now in
    let b = c.deref-in-Choose-2.result.now in
    let d = c.deref-in-Choose-3.result.now in
    let old = signals_of c.args.signals.now in
    let first = signals_of c.add_names-in-Choose.new.signals in
    let second = signals_of c.add_names-in-Choose-2.new.signals in
    let third = signals_of c.add_names-in-Choose-3.new.signals in
    let tree = tree-choice c.args.expr.now i.cond i.yes i.other a b d i.is c.deref-in-Choose.ensures c.deref-in-Choose-2.ensures c.deref-in-Choose-3.ensures in
    let two = then-among l old first second (names_in (tree_of a)) (names_in (tree_of b)) (c.in_ok-add_names-in-Choose.ensures l shows) (c.in_ok-add_names-in-Choose-2.ensures l shows) in
    ok-map c.add_names-in-Choose-3.result
    (λ x h. then-among l old second third (names_in (tree_of a) ++ names_in (tree_of b)) (names_in (tree_of d)) two h ∙ ap (λ v. joined old (signals_among l (names_in v))) (sym tree))
    (c.add_names-in-Choose-3.ensures l shows)

pub add_names-returns-in_ok-add_names-in-Repeat : goal.add_names-returns-in_ok-add_names-in-Repeat
add_names-returns-in_ok-add_names-in-Repeat t c = λ l shows.
    let i = c.in-Repeat in
    let a = c.deref-in-Repeat.result.now in
    let es = c.as_slice-in-Repeat.result.now in
    let old = signals_of c.args.signals.now in
    let first = signals_of c.add_names-in-Repeat.new.signals in
    let second = signals_of c.add_names_of-in-Repeat.new.signals in
    let tree = tree-repeat c.args.expr.now i.count i.parts es a i.is c.deref-in-Repeat.ensures c.as_slice-in-Repeat.ensures in
    ok-map c.add_names_of-in-Repeat.result
    (λ x h. then-among l old first second (names_in (tree_of a)) (all_names_in (trees_of (map tree_of es))) (c.in_ok-add_names-in-Repeat.ensures l shows) h ∙ ap (λ v. joined old (signals_among l (names_in v))) (sym tree))
    (c.add_names_of-in-Repeat.ensures l shows)

pub add_names_of-loop-expr-preserved : goal.add_names_of-loop-expr-preserved
add_names_of-loop-expr-preserved t c = λ l shows.
    let all = c.args.exprs.now in
    let i = c.loop-expr.expr-index in
    let x = c.expr-item.result in
    let rest = drop (i + 1) all in
    let next : drop i all ≡ x ∷ rest = drop_more all i x c.loop-expr-test.true ∙ ap (λ (z : Expr). z ∷ rest) (sym c.expr-item.is) in
    let old = joined (signals_of c.args.signals.now) (signals_among l (all_names_in (trees_of (map tree_of all)))) in
    let now = signals_of c.loop-expr.signals in
    among-step l now (signals_of c.add_names.new.signals) old (names_in (tree_of x)) (all_names_in (trees_of (map tree_of rest)))
    (subst (λ es. joined now (signals_among l (all_names_in (trees_of (map tree_of es)))) ≡ old) next (c.loop-expr.invariant l shows)) (c.in_ok-add_names.ensures l shows)
