use Rattle.std.proofs.Common.{not, ◌&&◌, ◌||◌, ◌≡◌, List, map, take, IfOk, Option, Some, Box, Global, refl, sym, subst, ap, ◌∙◌}
use Rattle.std.specs.Option.{unwrap_or}
use Rattle.std.proofs.lemmas.List.{take_all}
use Rattle.flat_meaning.specs.Flat as f
use Rattle.flat_meaning.specs.Flat.{no_items, default_item}
use Rattle.flat_meaning.specs.Full.{is_full}
use Rattle.flat_meaning.specs.Design.{width_in}
use Rattle.flat_meaning.specs.Assigned.{surely, surely_case, surely_all}
use Rattle.flat_form.specs.declared.flat.FExpr.{FExpr}
use Rattle.flat_form.specs.declared.flat.FStmt.{FStmt}
use Rattle.flat_form.specs.declared.flat.FStmt.TheVariants as s
use Rattle.flat_form.specs.declared.flat.FCaseItem.{FCaseItem}
use Rattle.flat_form.specs.View.{expr_of, exprs_of, stmt_of, stmts_of, Arm, arm_of, items_of}
use Rattle.flat_form.specs.Masks.{Adds}
use Rattle.flat_form.specs.Uses.{exprs_read}
use Rattle.flat_form.proofs.StmtFolds.{stmt_of-If, stmt_of-If_alone, stmt_of-Case, stmt_of-Case_alone}
use Rattle.flat_form.proofs.StmtUses.{arm-is}
use Rattle.flat_unfolding.specs.Reads.{early, early_in, early_all}
use Rattle.flat_statements.specs.declared.latch.Paths.{Paths}
use Rattle.flat_statements.specs.Statements.{items_in, IsFull, AreItemsFull}
use Rattle.flat_statements.specs.Latches.{IsPaths, IsPathsOf, AreBranches}
use Rattle.flat_statements.proofs.Paths.{empty-paths, read-paths, block-paths, more-branches, default-paths, full-paths, map-more, stmt-full, item-full, items-full, takes-all}
use Rattle.flat_statements.proofs.latch.+statement_paths.Goals as goal

-- ---- one after another

pub block_paths-loop-stmt-preserved : goal.block_paths-loop-stmt-preserved
block_paths-loop-stmt-preserved t c = λ full.
    let wid = width_in c.args.signals.now in
    let all = c.args.stmts.now in
    let k = c.loop-stmt.stmt-index in
    let x = c.stmt-item.result in
    subst (λ (xs : List f.Stmt). IsPaths (surely_all wid (stmts_of xs)) (early_all wid (stmts_of xs)) c.then.new.self) (sym (map-more stmt_of all k x c.loop-stmt-test.true c.stmt-item.is))
    (block-paths wid (map stmt_of (take k all)) (stmt_of x) c.loop-stmt.all c.in_ok-next.next c.then.new.self (c.loop-stmt.invariant full)
    (c.in_ok-next.ensures (stmt-full all k x c.loop-stmt-test.true c.stmt-item.is full)) c.in_ok-then.ensures.surely c.in_ok-then.ensures.exposed)

pub block_paths-returns : goal.block_paths-returns
block_paths-returns t c = λ full.
    let wid = width_in c.args.signals.now in
    subst (λ (xs : List FStmt). IsPaths (surely_all wid (stmts_of (map stmt_of xs))) (early_all wid (stmts_of (map stmt_of xs))) c.loop-stmt.all) (take_all c.loop-stmt.stmt-index c.args.stmts.now c.loop-stmt-test.false) (c.loop-stmt.invariant full)

-- ---- the items of a `case`

pub item_paths-loop-item-preserved : goal.item_paths-loop-item-preserved
item_paths-loop-item-preserved t c = λ full.
    let wid = width_in c.args.signals.now in
    let all = c.args.items.now in
    let k = c.loop-item.item-index in
    let x = c.item-item.result in
    let next = c.in_ok-next.next in
    let read : Paths = record { surely = next.surely; exposed = c.add_reads_of.new.reads } in
    let labels = subst (λ (ls : List FExpr). Adds next.exposed read.exposed (exprs_read wid (exprs_of (map expr_of ls)))) c.as_slice.ensures c.in_ok-add_reads_of.ensures.added in
    let own = read-paths (surely wid (stmt_of x.body)) (early wid (stmt_of x.body)) (exprs_read wid (exprs_of (map expr_of x.labels))) next read
    (c.in_ok-next.ensures (item-full all k x c.loop-item-test.true c.item-item.is full)) (λ s i l. refl) labels in
    subst (λ (ws : List Arm). AreBranches wid (items_of ws no_items) (Some c.in_ok-either.field-0)) (sym (map-more arm_of all k x c.loop-item-test.true c.item-item.is))
    (more-branches wid (map arm_of (take k all)) (arm_of x) c.loop-item.all read c.in_ok-either.field-0 (c.loop-item.invariant full)
    (subst (λ (a : Arm). IsPaths (surely wid a.body) (λ d s i. (exprs_read wid a.labels s i && not (d s i)) || early wid a.body d s i) read) (sym (arm-is x)) own)
    c.in_ok-either.ensures.surely c.in_ok-either.ensures.exposed)

-- ---- statements

pub statement_paths-returns-in_ok-other-in-Some : goal.statement_paths-returns-in_ok-other-in-Some
statement_paths-returns-in_ok-other-in-Some t c =
    let wid = width_in c.args.signals.now in
    let i = c.in-If in
    let other = c.in-Some.other in
    let form : stmt_of c.args.stmt.now ≡ f.If (expr_of i.cond) (stmt_of i.yes.value) (stmt_of other.value) =
    ap stmt_of (i.is ∙ ap (λ (o : Option (Box FStmt Global)). s.If i.cond i.yes o) c.in-Some.is) ∙ stmt_of-If i.cond i.yes other in
    subst (λ (x : f.Stmt). IsFull x → IfOk c.chosen_paths.result (IsPathsOf wid x)) (sym form)
    (λ full. c.chosen_paths.ensures (stmt_of i.yes.value) (stmt_of other.value)
    (subst (λ (x : FStmt). IsFull (stmt_of x) → IsPathsOf wid (stmt_of x) c.in_ok-yes-in-If.yes) c.deref.ensures c.in_ok-yes-in-If.ensures full.0)
    (subst (λ (x : FStmt). IsFull (stmt_of x) → IsPathsOf wid (stmt_of x) c.in_ok-other-in-Some.other) c.deref-in-Some.ensures c.in_ok-other-in-Some.ensures full.1))

pub statement_paths-returns-in-None : goal.statement_paths-returns-in-None
statement_paths-returns-in-None t c =
    let wid = width_in c.args.signals.now in
    let i = c.in-If in
    let form : stmt_of c.args.stmt.now ≡ f.If (expr_of i.cond) (stmt_of i.yes.value) f.Null =
    ap stmt_of (i.is ∙ ap (λ (o : Option (Box FStmt Global)). s.If i.cond i.yes o) c.in-None.is) ∙ stmt_of-If_alone i.cond i.yes in
    subst (λ (x : f.Stmt). IsFull x → IfOk c.chosen_paths-in-None.result (IsPathsOf wid x)) (sym form)
    (λ full. c.chosen_paths-in-None.ensures (stmt_of i.yes.value) f.Null
    (subst (λ (x : FStmt). IsFull (stmt_of x) → IsPathsOf wid (stmt_of x) c.in_ok-yes-in-If.yes) c.deref.ensures c.in_ok-yes-in-If.ensures full.0)
    (empty-paths c.new-in-None.result (c.new-in-None.ensures.surely, c.new-in-None.ensures.exposed)))

pub statement_paths-returns-in_ok-all-in-Some-default : goal.statement_paths-returns-in_ok-all-in-Some-default
statement_paths-returns-in_ok-all-in-Some-default t c =
    let wid = width_in c.args.signals.now in
    let i = c.in-Case in
    let d = c.in-Some-default in
    let e = expr_of i.subject in
    let x = stmt_of d.default.value in
    let ws = map arm_of i.items in
    let is = items_of ws (default_item x) in
    let form : stmt_of c.args.stmt.now ≡ f.Case e is = ap stmt_of (i.is ∙ ap (λ (o : Option (Box FStmt Global)). s.Case i.subject i.items o) d.is) ∙ stmt_of-Case i.subject i.items d.default in
    let taken = is_full (f.case_size e is) is in
    subst (λ (z : f.Stmt). IsFull z → IfOk c.behind_reads.result (IsPathsOf wid z)) (sym form)
    (λ full. let parts = items-full ws x full.1 in c.behind_reads.ensures (λ d. surely_case wid taken d is d) (early_in wid is)
    (default-paths wid taken ws x c.in_ok-branches-in-Case.branches c.in_ok-default-in-Some-default.default c.in_ok-all-in-Some-default.all
    (subst (λ (xs : List FCaseItem). AreItemsFull (items_in xs) → AreBranches wid (items_in xs) c.in_ok-branches-in-Case.branches) c.as_slice.ensures c.in_ok-branches-in-Case.ensures parts.0)
    (subst (λ (z : FStmt). IsFull (stmt_of z) → IsPathsOf wid (stmt_of z) c.in_ok-default-in-Some-default.default) c.deref-in-Some-default.ensures c.in_ok-default-in-Some-default.ensures parts.1)
    c.in_ok-all-in-Some-default.ensures.surely c.in_ok-all-in-Some-default.ensures.exposed))

pub statement_paths-returns-in-None-default : goal.statement_paths-returns-in-None-default
statement_paths-returns-in-None-default t c =
    let wid = width_in c.args.signals.now in
    let i = c.in-Case in
    let e = expr_of i.subject in
    let ws = map arm_of i.items in
    let is = items_of ws no_items in
    let o = c.in_ok-branches-in-Case.branches in
    let n = c.new-in-None-default.result in
    let r = c.unwrap_or.result in
    let form : stmt_of c.args.stmt.now ≡ f.Case e is = ap stmt_of (i.is ∙ ap (λ (o : Option (Box FStmt Global)). s.Case i.subject i.items o) c.in-None-default.is) ∙ stmt_of-Case_alone i.subject i.items in
    subst (λ (z : f.Stmt). IsFull z → IfOk c.behind_reads-in-None-default.result (IsPathsOf wid z)) (sym form)
    (λ full. c.behind_reads-in-None-default.ensures (λ d. surely_case wid (is_full (f.case_size e is) is) d is d) (early_in wid is)
    (subst (λ b. IsPaths (λ d. surely_case wid b d is d) (early_in wid is) r) (sym (takes-all ws (is_full (f.case_size e is) is) full.0))
    (full-paths wid ws o n r
    (subst (λ (xs : List FCaseItem). AreItemsFull (items_in xs) → AreBranches wid (items_in xs) o) c.as_slice.ensures c.in_ok-branches-in-Case.ensures full.1)
    (c.new-in-None-default.ensures.surely, c.new-in-None-default.ensures.exposed)
    (λ none. c.unwrap_or.ensures ∙ ap (λ z. unwrap_or z n) none) (λ p some. c.unwrap_or.ensures ∙ ap (λ z. unwrap_or z n) some))))
