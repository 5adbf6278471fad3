use Rattle.std.proofs.Common.{◌≡◌, ◌+◌, [], ◌∷◌, map, drop, sym, ap, subst, ◌∙◌}
use Rattle.std.proofs.lemmas.List.{drop_more, drop_all}
use Rattle.verilog_ast.specs.declared.Stmt.{Stmt}
use Rattle.verilog_reading.specs.StmtTree.{stmt_tree_of, stmt_trees_of}
use Rattle.flat_unfolding.specs.Design.{look_of}
use Rattle.flat_unfolding.specs.Starts.{Starts, initial_row, initial_rows}
use Rattle.flat_names.specs.Noting.{all_noted}
use Rattle.flat_process.specs.Starts.{AreStarts}
use Rattle.flat_process.proofs.Started.{IsPartly}
use Rattle.flat_process.proofs.start.initial_block.Goals as goal

pub loop-stmt-preserved : goal.loop-stmt-preserved
loop-stmt-preserved c = λ pins s a f names h is formed noted.
    let all = c.args.stmts.now in
    let i = c.loop-stmt.stmt-index in
    let x = c.stmt-item.result in
    let rest = drop (i + 1) all in
    let next : drop i all ≡ x ∷ rest = drop_more all i x c.loop-stmt-test.true ∙ ap (λ (z : Stmt). z ∷ rest) (sym c.stmt-item.is) in
    let whole = initial_rows (look_of s) a (stmt_trees_of (map stmt_tree_of all)) in
    let before = subst (λ xs. IsPartly pins c.loop-stmt.design s.design (look_of s) whole (stmt_trees_of (map stmt_tree_of xs)) f c.loop-stmt.faults) next (c.loop-stmt.invariant pins s a f names h is formed noted) in
    let step = c.in_ok-initial_statement.ensures pins s before.done f names before.starts is before.formed.0 before.noted in
    record { done = initial_row (look_of s) before.done (stmt_tree_of x); starts = step.0; rest = before.rest; formed = before.formed.1; noted = step.1 }

pub returns : goal.returns
returns c = λ pins s a f names h is formed noted.
    let all = c.args.stmts.now in
    let i = c.loop-stmt.stmt-index in
    let none : drop i all ≡ [] = drop_all i all c.loop-stmt-test.false in
    let whole = initial_rows (look_of s) a (stmt_trees_of (map stmt_tree_of all)) in
    let last = subst (λ xs. IsPartly pins c.loop-stmt.design s.design (look_of s) whole (stmt_trees_of (map stmt_tree_of xs)) f c.loop-stmt.faults) none (c.loop-stmt.invariant pins s a f names h is formed noted) in
    subst (λ (b : Starts). AreStarts pins c.loop-stmt.design s.design b × (c.loop-stmt.faults ≡ all_noted f b.broken)) last.rest (last.starts, last.noted)
