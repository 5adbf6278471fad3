-- Each form of a statement is done as the forms below it, item after item.
use Rattle.std.proofs.Common.{◌≡◌, ◌+◌, true, false, refl, List, [], map, All, drop, sym, ap, ap₂, subst, ◌∙◌}
use Rattle.std.proofs.lemmas.List.{drop_all}
use Rattle.verilog_ast.specs.declared.Label.{Label}
use Rattle.verilog_ast.specs.declared.Stmt.{Stmt}
use Rattle.verilog_ast.specs.declared.Stmt.TheVariants as s
use Rattle.verilog_ast.specs.declared.CaseItem.{CaseItem}
use Rattle.verilog_reading.specs.ExprTree.{tree_of}
use Rattle.verilog_reading.specs.StmtTree.{stmt_tree_of, stmt_trees_of, arms_of, label_tree_of, when, either, switch, switch_else, subject_of, block}
use Rattle.flat_form.specs.declared.flat.FStmt.{FStmt}
use Rattle.flat_form.specs.declared.flat.FStmt.TheVariants as form
use Rattle.flat_unfolding.specs.Expressions.{read}
use Rattle.flat_unfolding.specs.Formed.{IsLabelFormed, IsStmtFormed, AreRowsFormed, AreArmsFormed}
use Rattle.flat_unfolding.specs.Statements.{done, done_all, ways, nothing_done, mask_of, masks_broken}
use Rattle.flat_names.specs.Noting.{all_noted}
use Rattle.flat_names.proofs.Options.{ok-map}
use Rattle.flat_statements.specs.declared.masks.MaskItem.{MaskItem}
use Rattle.flat_statements.specs.Statements.{kind_of, arm_tree_of, AreDone}
use Rattle.flat_statements.specs.Masks.{AreMasks}
use Rattle.flat_statements.proofs.Items.{WaysSoFar, ways-step, ways-end}
use Rattle.flat_statements.proofs.Done.{done-null}
use Rattle.flat_statements.proofs.Lefts.{left-is}
use Rattle.flat_statements.proofs.Loops.{BlockSoFar, block-step, block-end, ArmsSoFar, arms-end}
use Rattle.flat_statements.proofs.Trees.{tree-set, tree-when, tree-either, tree-switch, tree-switch_else, tree-block}
use Rattle.flat_statements.proofs.Written.{IsResolved, chain-noted, null-written, when-written, either-written, switch-noted, switch_else-written, block-written, item-formed, item-written}
use Rattle.flat_statements.proofs.statement.+statement.Goals as goal

pub statement-returns-in-Null : goal.statement-returns-in-Null
statement-returns-in-Null t c = λ l h is formed. null-written l (kind_of c.args.mode) c.args.stmt.now c.in-Null.is c.args.faults.now

pub statement-returns-in-Set : goal.statement-returns-in-Set
statement-returns-in-Set t c = λ l h is formed.
    let i = c.in-Set in
    let tree = ap stmt_tree_of i.is ∙ tree-set i.blocking i.delay i.target i.value in
    let inner = subst IsStmtFormed tree formed in
    ok-map c.assignment.result (λ r d. subst (λ z. IsResolved l (kind_of c.args.mode) z c.args.faults.now c.assignment.new.faults r) (sym tree) d) (c.assignment.ensures l h is inner.0 inner.1)

pub statement-returns-in-None : goal.statement-returns-in-None
statement-returns-in-None t c = λ l h is formed.
    let i = c.in-If in
    let a = c.deref.result.now in
    let tree : stmt_tree_of c.args.stmt.now ≡ when (tree_of i.cond) (stmt_tree_of a) = ap stmt_tree_of (i.is ∙ ap (s.If i.cond i.yes) c.in-None.is) ∙ tree-when i.cond i.yes ∙ ap (λ z. when (tree_of i.cond) (stmt_tree_of z)) (sym c.deref.ensures) in
    let inner = subst IsStmtFormed tree formed in
    let e = c.in_ok-cond-in-If.ensures l h is inner.0 in
    let x = c.in_ok-yes-in-If.ensures l h is inner.1 in
    ok-map c.chosen_alone.result
    (λ r b. subst (λ z. IsResolved l (kind_of c.args.mode) z c.args.faults.now c.statement.new.faults r) (sym tree)
    (when-written l (kind_of c.args.mode) (tree_of i.cond) (stmt_tree_of a) c.args.faults.now c.resolve.new.faults c.statement.new.faults c.in_ok-cond-in-If.cond c.in_ok-yes-in-If.yes r (e.0, e.1) x b)) c.chosen_alone.ensures

pub statement-returns-in_ok-other-in-Some : goal.statement-returns-in_ok-other-in-Some
statement-returns-in_ok-other-in-Some t c = λ l h is formed.
    let i = c.in-If in
    let o = c.in-Some in
    let a = c.deref.result.now in
    let b = c.deref-in-Some.result.now in
    let tree : stmt_tree_of c.args.stmt.now ≡ either (tree_of i.cond) (stmt_tree_of a) (stmt_tree_of b) = ap stmt_tree_of (i.is ∙ ap (s.If i.cond i.yes) o.is) ∙ tree-either i.cond i.yes o.other
    ∙ ap₂ (λ y z. either (tree_of i.cond) (stmt_tree_of y) (stmt_tree_of z)) (sym c.deref.ensures) (sym c.deref-in-Some.ensures) in
    let inner = subst IsStmtFormed tree formed in
    let e = c.in_ok-cond-in-If.ensures l h is inner.0 in
    let x = c.in_ok-yes-in-If.ensures l h is inner.1 in
    let y = c.in_ok-other-in-Some.ensures l h is inner.2 in
    ok-map c.chosen.result
    (λ r d. subst (λ z. IsResolved l (kind_of c.args.mode) z c.args.faults.now c.statement-in-Some.new.faults r) (sym tree)
    (either-written l (kind_of c.args.mode) (tree_of i.cond) (stmt_tree_of a) (stmt_tree_of b) c.args.faults.now c.resolve.new.faults c.statement.new.faults c.statement-in-Some.new.faults c.in_ok-cond-in-If.cond c.in_ok-yes-in-If.yes
    c.in_ok-other-in-Some.other r (e.0, e.1) x y d)) c.chosen.ensures

pub statement-returns-in_ok-last-in-Some-default : goal.statement-returns-in_ok-last-in-Some-default
statement-returns-in_ok-last-in-Some-default t c = λ l h is formed.
    let k = kind_of c.args.mode in
    let i = c.in-Case in
    let o = c.in-Some-default in
    let rows = arms_of (map arm_tree_of c.as_slice.result.now) in
    let b = c.deref-in-Some-default.result.now in
    let tree : stmt_tree_of c.args.stmt.now ≡ switch_else (subject_of true (tree_of i.subject)) rows (stmt_tree_of b) = ap stmt_tree_of (i.is ∙ ap₂ (λ m z. s.Case m i.subject i.items z) c.if-masks.true o.is) ∙ tree-switch_else true i.subject i.items o.default
    ∙ ap₂ (λ (y : List CaseItem) z. switch_else (subject_of true (tree_of i.subject)) (arms_of (map arm_tree_of y)) (stmt_tree_of z)) (sym c.as_slice.ensures) (sym c.deref-in-Some-default.ensures) in
    let inner = subst IsStmtFormed tree formed in
    let e = c.in_ok-subject-in-Case.ensures l h is inner.0 in
    let m = c.in_ok-items-in-Case.ensures l h is inner.1 in
    let d = c.in_ok-last-in-Some-default.ensures l h is inner.2 in
    ok-map c.chained.result
    (λ r q. subst (λ z. IsResolved l k z c.args.faults.now c.statement-in-Some-default.new.faults r) (sym tree)
    (q, chain-noted l k (tree_of i.subject) rows (done l k (stmt_tree_of b)) c.args.faults.now c.resolve-in-Case.new.faults c.mask_items.new.faults c.statement-in-Some-default.new.faults e.1 m.1 d.1))
    (c.chained.ensures (read l (tree_of i.subject)) (ways l k rows) (done l k (stmt_tree_of b)) e.0 m.0 d.0)

pub statement-returns-in-None-default : goal.statement-returns-in-None-default
statement-returns-in-None-default t c = λ l h is formed.
    let k = kind_of c.args.mode in
    let i = c.in-Case in
    let rows = arms_of (map arm_tree_of c.as_slice.result.now) in
    let tree : stmt_tree_of c.args.stmt.now ≡ switch (subject_of true (tree_of i.subject)) rows = ap stmt_tree_of (i.is ∙ ap₂ (λ m z. s.Case m i.subject i.items z) c.if-masks.true c.in-None-default.is) ∙ tree-switch true i.subject i.items
    ∙ ap (λ (y : List CaseItem). switch (subject_of true (tree_of i.subject)) (arms_of (map arm_tree_of y))) (sym c.as_slice.ensures) in
    let inner = subst IsStmtFormed tree formed in
    let e = c.in_ok-subject-in-Case.ensures l h is inner.0 in
    let m = c.in_ok-items-in-Case.ensures l h is inner.1 in
    ok-map c.chained-in-None-default.result
    (λ r q. subst (λ z. IsResolved l k z c.args.faults.now c.mask_items.new.faults r) (sym tree)
    (q, chain-noted l k (tree_of i.subject) rows nothing_done c.args.faults.now c.resolve-in-Case.new.faults c.mask_items.new.faults c.mask_items.new.faults e.1 m.1 refl))
    (c.chained-in-None-default.ensures (read l (tree_of i.subject)) (ways l k rows) nothing_done e.0 m.0 (done-null l k))

pub statement-returns-in_ok-default-in-Some-default-2 : goal.statement-returns-in_ok-default-in-Some-default-2
statement-returns-in_ok-default-in-Some-default-2 t c = λ l h is formed.
    let i = c.in-Case in
    let o = c.in-Some-default-2 in
    let items = c.as_slice-in-Case.result.now in
    let rows = arms_of (map arm_tree_of items) in
    let b = c.deref-in-Some-default-2.result.now in
    let tree : stmt_tree_of c.args.stmt.now ≡ switch_else (subject_of false (tree_of i.subject)) rows (stmt_tree_of b) = ap stmt_tree_of (i.is ∙ ap₂ (λ m z. s.Case m i.subject i.items z) c.if-masks.false o.is) ∙ tree-switch_else false i.subject i.items o.default
    ∙ ap₂ (λ (y : List CaseItem) z. switch_else (subject_of false (tree_of i.subject)) (arms_of (map arm_tree_of y)) (stmt_tree_of z)) (sym c.as_slice-in-Case.ensures) (sym c.deref-in-Some-default-2.ensures) in
    let inner = subst IsStmtFormed tree formed in
    let e = c.in_ok-subject-in-Case.ensures l h is inner.0 in
    let m = c.in_ok-cases-in-Case.ensures l h is inner.1 in
    let d = c.in_ok-default-in-Some-default-2.ensures l h is inner.2 in
    let v = c.in_ok-cases-in-Case.cases in
    ok-map c.case_with.result
    (λ r q. subst (λ z. IsResolved l (kind_of c.args.mode) z c.args.faults.now c.statement-in-Some-default-2.new.faults r) (sym tree)
    (switch_else-written l (kind_of c.args.mode) (tree_of i.subject) rows (stmt_tree_of b) c.args.faults.now c.resolve-in-Case.new.faults c.case_items.new.faults c.statement-in-Some-default-2.new.faults c.in_ok-subject-in-Case.subject
    v.items.items v.is_sound v.is_constant c.in_ok-default-in-Some-default-2.default r (e.0, e.1) m d q)) c.case_with.ensures

pub statement-returns-in-None-default-2 : goal.statement-returns-in-None-default-2
statement-returns-in-None-default-2 t c = λ l h is formed.
    let k = kind_of c.args.mode in
    let i = c.in-Case in
    let items = c.as_slice-in-Case.result.now in
    let rows = arms_of (map arm_tree_of items) in
    let tree : stmt_tree_of c.args.stmt.now ≡ switch (subject_of false (tree_of i.subject)) rows = ap stmt_tree_of (i.is ∙ ap₂ (λ m z. s.Case m i.subject i.items z) c.if-masks.false c.in-None-default-2.is) ∙ tree-switch false i.subject i.items
    ∙ ap (λ (y : List CaseItem). switch (subject_of false (tree_of i.subject)) (arms_of (map arm_tree_of y))) (sym c.as_slice-in-Case.ensures) in
    let inner = subst IsStmtFormed tree formed in
    let e = c.in_ok-subject-in-Case.ensures l h is inner.0 in
    let m = c.in_ok-cases-in-Case.ensures l h is inner.1 in
    ok-map c.case_without.result
    (λ r q. subst (λ z. IsResolved l k z c.args.faults.now c.case_items.new.faults r) (sym tree)
    (q, switch-noted l k (tree_of i.subject) rows c.args.faults.now c.resolve-in-Case.new.faults c.case_items.new.faults e.1 m.1)) (c.case_without.ensures l k (tree_of i.subject) rows e.0 m.0)

pub statement-returns-in_ok-stmts-in-Block : goal.statement-returns-in_ok-stmts-in-Block
statement-returns-in_ok-stmts-in-Block t c = λ l h is formed.
    let k = kind_of c.args.mode in
    let i = c.in-Block in
    let rows = stmt_trees_of (map stmt_tree_of c.as_slice-in-Block.result.now) in
    let tree : stmt_tree_of c.args.stmt.now ≡ block rows = ap stmt_tree_of i.is ∙ tree-block i.stmts ∙ ap (λ (y : List Stmt). block (stmt_trees_of (map stmt_tree_of y))) (sym c.as_slice-in-Block.ensures) in
    let d = c.in_ok-stmts-in-Block.ensures l h is (subst IsStmtFormed tree formed) in
    subst (λ z. IsResolved l k z c.args.faults.now c.block.new.faults (form.Block c.in_ok-stmts-in-Block.stmts)) (sym tree) (block-written l k rows c.args.faults.now c.block.new.faults c.in_ok-stmts-in-Block.stmts d)

pub block-loop-stmt-preserved : goal.block-loop-stmt-preserved
block-loop-stmt-preserved t c = λ l h is f.
    let k = kind_of c.args.mode in
    let xs = c.args.stmts.now in
    let i = c.loop-stmt.stmt-index in
    let x = c.stmt-item.result in
    let before = c.loop-stmt.invariant l h is f in
    let left = left-is xs i x c.loop-stmt-test.true c.stmt-item.is in
    let formed = subst (λ (ys : List Stmt). AreRowsFormed (stmt_trees_of (map stmt_tree_of ys))) left before.formed in
    let r = c.in_ok-statement.ensures l h is formed.0 in
    subst (λ (ys : List FStmt). BlockSoFar l k xs (drop (i + 1) xs) ys c.args.faults.now c.statement.new.faults) (sym {A = List FStmt} c.in_ok-push.ensures.pushed)
    (block-step l k xs (drop (i + 1) xs) (drop i xs) x c.loop-stmt.all.items c.in_ok-statement.field-0 c.args.faults.now c.loop-stmt.faults c.statement.new.faults before left r.0 r.1)

pub block-returns : goal.block-returns
block-returns t c = λ l h is f.
    let k = kind_of c.args.mode in
    let xs = c.args.stmts.now in
    let i = c.loop-stmt.stmt-index in
    let none : drop i xs ≡ [] = drop_all i xs c.loop-stmt-test.false in
    subst (λ (ys : List FStmt). AreDone (done_all l k (stmt_trees_of (map stmt_tree_of xs))) ys × (c.loop-stmt.faults ≡ all_noted c.args.faults.now (done_all l k (stmt_trees_of (map stmt_tree_of xs))).broken)) (sym c.from_vec.ensures)
    (block-end l k xs c.loop-stmt.all.items c.args.faults.now c.loop-stmt.faults (subst (λ (ys : List Stmt). BlockSoFar l k xs ys c.loop-stmt.all.items c.args.faults.now c.loop-stmt.faults) none (c.loop-stmt.invariant l h is f)))

pub case_items-loop-item-preserved : goal.case_items-loop-item-preserved
case_items-loop-item-preserved t c = λ l h is f.
    let k = kind_of c.args.mode in
    let xs = c.args.items.now in
    let i = c.loop-item.item-index in
    let x = c.item-item.result in
    let rest = drop (i + 1) xs in
    let before = c.loop-item.invariant l h is f in
    let left = left-is xs i x c.loop-item-test.true c.item-item.is in
    let formed = item-formed x rest (subst (λ (ys : List CaseItem). AreArmsFormed (arms_of (map arm_tree_of ys))) left before.formed) in
    let labels = c.in_ok-labels.ensures l k h is (subst (λ (ls : List Label). All IsLabelFormed (map label_tree_of ls)) (sym c.as_slice.ensures) formed.0) in
    let body = c.in_ok-body.ensures l h is formed.1 in
    let old = c.loop-item.cases in
    let new = c.add.new.self in
    item-written l k xs rest (drop i xs) x c.as_slice.result.now old.items.items new.items.items old.is_sound old.is_constant new.is_sound new.is_constant c.in_ok-labels.labels c.in_ok-body.body
    c.args.faults.now c.loop-item.faults c.labels.new.faults c.statement.new.faults before left c.as_slice.ensures labels body c.in_ok-add.ensures

pub case_items-returns : goal.case_items-returns
case_items-returns t c = λ l h is f.
    let xs = c.args.items.now in
    let i = c.loop-item.item-index in
    let now = c.loop-item.cases in
    let none : drop i xs ≡ [] = drop_all i xs c.loop-item-test.false in
    arms-end l (kind_of c.args.mode) xs now.items.items now.is_sound now.is_constant c.args.faults.now c.loop-item.faults
    (subst (λ (ys : List CaseItem). ArmsSoFar l (kind_of c.args.mode) xs ys now.items.items now.is_sound now.is_constant c.args.faults.now c.loop-item.faults) none (c.loop-item.invariant l h is f))

pub mask_items-loop-item-preserved : goal.mask_items-loop-item-preserved
mask_items-loop-item-preserved t c = λ l h is f.
    let k = kind_of c.args.mode in
    let xs = c.args.items.now in
    let i = c.loop-item.item-index in
    let x = c.item-item.result in
    let rest = drop (i + 1) xs in
    let before = c.loop-item.invariant l h is f in
    let left = left-is xs i x c.loop-item-test.true c.item-item.is in
    let formed = item-formed x rest (subst (λ (ys : List CaseItem). AreArmsFormed (arms_of (map arm_tree_of ys))) left before.formed) in
    let labels = c.in_ok-labels.ensures l k h is (subst (λ (ls : List Label). All IsLabelFormed (map label_tree_of ls)) (sym c.as_slice.ensures) formed.0) in
    let body = c.in_ok-body.ensures l h is formed.1 in
    let masks = λ (ls : List Label). map (mask_of l k) (map label_tree_of ls) in
    subst (λ (ys : List MaskItem). WaysSoFar l k xs rest ys c.args.faults.now c.statement.new.faults) (sym {A = List MaskItem} c.in_ok-push.ensures.pushed)
    (ways-step l k xs rest (drop i xs) x c.loop-item.all.items _ c.args.faults.now c.loop-item.faults c.mask_labels.new.faults c.statement.new.faults before left
    (record { masks = subst (λ (ls : List Label). AreMasks (masks ls) c.in_ok-labels.labels.items) c.as_slice.ensures labels.0; body = body.0 })
    (labels.1 ∙ ap (λ (ls : List Label). all_noted c.loop-item.faults (masks_broken (masks ls))) c.as_slice.ensures) body.1)

pub mask_items-returns : goal.mask_items-returns
mask_items-returns t c = λ l h is f.
    let xs = c.args.items.now in
    let i = c.loop-item.item-index in
    let none : drop i xs ≡ [] = drop_all i xs c.loop-item-test.false in
    ways-end l (kind_of c.args.mode) xs c.loop-item.all.items c.args.faults.now c.loop-item.faults
    (subst (λ (ys : List CaseItem). WaysSoFar l (kind_of c.args.mode) xs ys c.loop-item.all.items c.args.faults.now c.loop-item.faults) none (c.loop-item.invariant l h is f))
