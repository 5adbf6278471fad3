use Rattle.std.proofs.Common.{List, sym, ap, subst, ◌∙◌}
use Rattle.verilog_ast.specs.declared.CaseItem.{CaseItem}
use Rattle.verilog_ast.specs.declared.Stmt.{Stmt}
use Rattle.verilog_reading.specs.ExprTree.{tree_of}
use Rattle.verilog_reading.specs.StmtTree.{subject_of, stmt_tree_of}
use Rattle.flat_unfolding.specs.Resets.{tested as tested_by, form_with, items_form}
use Rattle.flat_unfolding.specs.Formed.{IsStmtFormed, AreArmsFormed}
use Rattle.flat_names.proofs.Options.{ok-map}
use Rattle.flat_process.proofs.Processes.{peeled-formed, form-around, branch-formed, if-form, item_rows, items-formed, case-form}
use Rattle.flat_process.proofs.always.reset_form.Goals as goal

pub returns-in_ok-tested-in-If : goal.returns-in_ok-tested-in-If
returns-in_ok-tested-in-If c = λ l h fit formed.
    let x = c.peeled-stmt.result.now in
    let i = c.in-If in
    let all = subst IsStmtFormed (sym c.peeled-stmt.ensures) (peeled-formed (stmt_tree_of c.args.body.now) formed) in
    let parts = branch-formed l x i.cond i.yes i.other i.is all in
    let told = c.in_ok-tested-in-If.ensures l h fit parts.0 in
    let branch = c.deref.result.now in
    let form = ap (λ o. form_with l o (stmt_tree_of branch) (stmt_tree_of x)) told
    ∙ ap (λ (z : Stmt). form_with l (tested_by l (tree_of i.cond)) (stmt_tree_of z) (stmt_tree_of x)) c.deref.ensures ∙ if-form l x i.cond i.yes i.other i.is in
    ok-map c.form_with.result (λ o k. form-around l (stmt_tree_of c.args.body.now) (stmt_tree_of x) _ o c.peeled-stmt.ensures form k)
    (c.form_with.ensures l h fit (subst (λ (z : Stmt). IsStmtFormed (stmt_tree_of z)) (sym c.deref.ensures) parts.1) all)

pub returns-in-Case : goal.returns-in-Case
returns-in-Case c = λ l h fit formed.
    let x = c.peeled-stmt.result.now in
    let i = c.in-Case in
    let all = subst IsStmtFormed (sym c.peeled-stmt.ensures) (peeled-formed (stmt_tree_of c.args.body.now) formed) in
    let parts = items-formed l x i.masks i.subject i.items i.default i.is all in
    let form = ap (λ (is : List CaseItem). items_form l (subject_of i.masks (tree_of i.subject)) (item_rows is) (stmt_tree_of x)) c.as_slice.ensures
    ∙ case-form l x i.masks i.subject i.items i.default i.is in
    ok-map c.items_form.result (λ o k. form-around l (stmt_tree_of c.args.body.now) (stmt_tree_of x) _ o c.peeled-stmt.ensures form k)
    (c.items_form.ensures l h fit parts.0 (subst (λ (is : List CaseItem). AreArmsFormed (item_rows is)) (sym c.as_slice.ensures) parts.1) all)
