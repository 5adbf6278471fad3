use Rattle.std.proofs.Common.{◌≡◌, ◌+◌, ◌∷◌, map, drop, sym, ap, subst, ◌∙◌}
use Rattle.std.proofs.lemmas.List.{drop_more, drop_all}
use Rattle.verilog_ast.specs.declared.Stmt.{Stmt}
use Rattle.verilog_reading.specs.StmtTree.{stmt_tree_of, stmt_trees_of}
use Rattle.flat_process.proofs.ResetRows.{RowsSoFar, rows-start, rows-next, rows-stop, rows-all}
use Rattle.flat_process.proofs.reset.block_given.Goals as goal

pub loop-stmt-init : goal.loop-stmt-init
loop-stmt-init c = λ l shows fit formed. rows-start l (stmt_trees_of (map stmt_tree_of c.args.stmts.now)) c.new-given.result.items c.new-given.ensures.items formed

pub loop-stmt-preserved : goal.loop-stmt-preserved
loop-stmt-preserved c = λ l shows fit formed.
    let all = c.args.stmts.now in
    let i = c.loop-stmt.stmt-index in
    let x = c.stmt-item.result in
    let rest = drop (i + 1) all in
    let next : drop i all ≡ x ∷ rest = drop_more all i x c.loop-stmt-test.true ∙ ap (λ (z : Stmt). z ∷ rest) (sym c.stmt-item.is) in
    let tree = stmt_trees_of (map stmt_tree_of all) in
    let now = c.loop-stmt.given.items in
    let r = subst (λ ss. RowsSoFar l tree (stmt_trees_of (map stmt_tree_of ss)) now) next (c.loop-stmt.invariant l shows fit formed) in
    rows-next l tree (stmt_tree_of x) (stmt_trees_of (map stmt_tree_of rest)) now c.add_given.new.given.items c.in_ok-add_given.field-0 r (c.in_ok-add_given.ensures l r.so_far shows fit r.formed.0 r.are) c.if-not-branch.false

pub returns-then-not-branch : goal.returns-then-not-branch
returns-then-not-branch c = λ l shows fit formed.
    let all = c.args.stmts.now in
    let i = c.loop-stmt.stmt-index in
    let x = c.stmt-item.result in
    let rest = drop (i + 1) all in
    let next : drop i all ≡ x ∷ rest = drop_more all i x c.loop-stmt-test.true ∙ ap (λ (z : Stmt). z ∷ rest) (sym c.stmt-item.is) in
    let tree = stmt_trees_of (map stmt_tree_of all) in
    let now = c.loop-stmt.given.items in
    let r = subst (λ ss. RowsSoFar l tree (stmt_trees_of (map stmt_tree_of ss)) now) next (c.loop-stmt.invariant l shows fit formed) in
    rows-stop l tree (stmt_tree_of x) (stmt_trees_of (map stmt_tree_of rest)) now c.add_given.new.given.items c.in_ok-add_given.field-0 r (c.in_ok-add_given.ensures l r.so_far shows fit r.formed.0 r.are) c.if-not-branch.true

pub returns : goal.returns
returns c = λ l shows fit formed.
    let tree = stmt_trees_of (map stmt_tree_of c.args.stmts.now) in
    rows-all l tree c.loop-stmt.given.items (subst (λ ss. RowsSoFar l tree (stmt_trees_of (map stmt_tree_of ss)) c.loop-stmt.given.items) (drop_all c.loop-stmt.stmt-index c.args.stmts.now c.loop-stmt-test.false) (c.loop-stmt.invariant l shows fit formed))
