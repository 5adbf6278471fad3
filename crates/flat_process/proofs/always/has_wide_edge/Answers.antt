use Rattle.std.proofs.Common.{◌≡◌, ◌+◌, List, drop, sym, subst, ap, ◌∙◌}
use Rattle.std.specs.List.{list_any}
use Rattle.std.proofs.lemmas.List.{drop_all}
use Rattle.verilog_ast.specs.declared.Edge.{Edge}
use Rattle.flat_unfolding.specs.Processes.{is_wide}
use Rattle.flat_statements.proofs.Lefts.{left-is}
use Rattle.flat_process.proofs.Processes.{any-found, any-then}
use Rattle.flat_process.proofs.always.has_wide_edge.Goals as goal

pub returns-then-is_wide : goal.returns-then-is_wide
returns-then-is_wide c = λ l h fit.
    let all = c.args.edges.now in
    let i = c.loop-edge.edge-index in
    let e = c.edge-item.result in
    let before = subst (λ (es : List Edge). list_any (is_wide l) es ≡ list_any (is_wide l) all) (left-is all i e c.loop-edge-test.true c.edge-item.is) (c.loop-edge.invariant l h fit) in
    any-found (is_wide l) e (drop (i + 1) all) (list_any (is_wide l) all) before (sym (c.is_wide.ensures l h fit) ∙ c.if-is_wide.true)

pub loop-edge-preserved : goal.loop-edge-preserved
loop-edge-preserved c = λ l h fit.
    let all = c.args.edges.now in
    let i = c.loop-edge.edge-index in
    let e = c.edge-item.result in
    let before = subst (λ (es : List Edge). list_any (is_wide l) es ≡ list_any (is_wide l) all) (left-is all i e c.loop-edge-test.true c.edge-item.is) (c.loop-edge.invariant l h fit) in
    any-then (is_wide l) e (drop (i + 1) all) (list_any (is_wide l) all) before (sym (c.is_wide.ensures l h fit) ∙ c.if-is_wide.false)

pub returns : goal.returns
returns c = λ l h fit.
    let all = c.args.edges.now in
    ap (list_any (is_wide l)) (sym (drop_all c.loop-edge.edge-index all c.loop-edge-test.false)) ∙ c.loop-edge.invariant l h fit
