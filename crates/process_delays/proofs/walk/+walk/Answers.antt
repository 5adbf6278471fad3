use Rattle.std.proofs.Common.{◌≡◌, ◌+◌, List, map, drop, Option, option_map, Bor, sym, ap, subst, ◌∙◌}
use Rattle.std.proofs.lemmas.List.{drop_all}
use Rattle.verilog_ast.specs.declared.Stmt.{Stmt}
use Rattle.verilog_ast.specs.declared.CaseItem.{CaseItem}
use Rattle.verilog_reading.specs.StmtTree.{stmt_tree_of, arms_of}
use Rattle.flat_unfolding.specs.Outcome.{Text}
use Rattle.flat_unfolding.specs.Delays.{Delays, on_both, walked, walked_arms}
use Rattle.process_delays.specs.Paths.{under}
use Rattle.process_delays.specs.Walks.{arm_tree_of}
use Rattle.process_delays.proofs.Walks.{map-or, left-is, RowsSoFar, rows-step, rows-end, ArmsSoFar, arms-step, arms-end, case-walked}
use Rattle.process_delays.proofs.walk.+walk.Goals as goal

pub walk-returns-in_ok-add_all-in-Case : goal.walk-returns-in_ok-add_all-in-Case
walk-returns-in_ok-add_all-in-Case t c =
    let f = under c.args.paths.now in
    let i = c.in-Case in
    let here = c.in_ok-here-in-Case.ensures in
    let items = c.as_slice.ensures in
    let after = λ (is : List CaseItem). (walked_arms f (arms_of (map arm_tree_of is))).after in
    let clash = λ (is : List CaseItem). (walked_arms f (arms_of (map arm_tree_of is))).clash in
    let chosen : (under c.walk_items.new.after ≡ after i.items) × (option_map (λ (n : Bor Text). n.now) c.in_ok-here-in-Case.here ≡ clash i.items) =
    (here.0 ∙ ap (λ g. on_both g (after c.as_slice.result.now)) c.new-chosen.ensures ∙ ap after items, here.1 ∙ ap clash items) in
    let w = case-walked f i.masks i.subject i.items i.default (under c.walk_items.new.after) (under c.walk_other-in-Case.new.paths) (under c.add_all-in-Case.new.self) _ _ chosen
    c.in_ok-there-in-Case.ensures c.in_ok-add_all-in-Case.ensures in (
      w.0 ∙ ap (λ s. (walked f (stmt_tree_of s)).after) (sym i.is),
      ap (option_map (λ (n : Bor Text). n.now)) c.or-in-Case.ensures ∙ map-or (λ (n : Bor Text). n.now) c.in_ok-here-in-Case.here c.in_ok-there-in-Case.there ∙ w.1 ∙ ap (λ s. (walked f (stmt_tree_of s)).clash) (sym i.is),
    )

pub walk_all-loop-stmt-preserved : goal.walk_all-loop-stmt-preserved
walk_all-loop-stmt-preserved t c =
    let now = λ (n : Bor Text). n.now in
    let xs = c.args.stmts.now in
    let i = c.loop-stmt.stmt-index in
    let rest = drop (i + 1) xs in
    let before = under c.args.paths.now in
    let next = under c.walk.new.paths in
    let left = left-is xs i c.stmt-item.result c.loop-stmt-test.true c.stmt-item.is in
    let step = rows-step xs (drop i xs) rest c.stmt-item.result before (under c.loop-stmt.paths) next (option_map now c.loop-stmt.clash) (option_map now c.in_ok-here.here)
    c.loop-stmt.invariant left c.in_ok-here.ensures in
    subst (λ (o : Option Text). RowsSoFar xs rest before next o) (sym (ap (option_map now) c.or-clash.ensures ∙ map-or now c.loop-stmt.clash c.in_ok-here.here)) step

pub walk_all-returns : goal.walk_all-returns
walk_all-returns t c =
    let none = drop_all c.loop-stmt.stmt-index c.args.stmts.now c.loop-stmt-test.false in
    rows-end c.args.stmts.now (under c.args.paths.now) (under c.loop-stmt.paths) _
    (subst (λ (xs : List Stmt). RowsSoFar c.args.stmts.now xs (under c.args.paths.now) (under c.loop-stmt.paths) (option_map (λ (n : Bor Text). n.now) c.loop-stmt.clash)) none c.loop-stmt.invariant)

pub walk_items-loop-item-preserved : goal.walk_items-loop-item-preserved
walk_items-loop-item-preserved t c =
    let now = λ (n : Bor Text). n.now in
    let f = under c.args.before.now in
    let xs = c.args.items.now in
    let i = c.loop-item.item-index in
    let x = c.item-item.result in
    let rest = drop (i + 1) xs in
    let before = under c.args.after.now in
    let own = under c.walk.new.paths in
    let next = under c.add_all.new.self in
    let left = left-is xs i x c.loop-item-test.true c.item-item.is in
    let w = subst (λ (g : Text → Delays). (own ≡ (walked g (stmt_tree_of x.body)).after) × (option_map now c.in_ok-found.found ≡ (walked g (stmt_tree_of x.body)).clash)) c.in_ok-chosen.ensures c.in_ok-found.ensures in
    let step = arms-step f xs (drop i xs) rest x before (under c.loop-item.after) own next (option_map now c.loop-item.clash) (option_map now c.in_ok-found.found)
    c.loop-item.invariant left w c.in_ok-add_all.ensures in
    subst (λ (o : Option Text). ArmsSoFar f xs rest before next o) (sym (ap (option_map now) c.or-clash.ensures ∙ map-or now c.loop-item.clash c.in_ok-found.found)) step

pub walk_items-returns : goal.walk_items-returns
walk_items-returns t c =
    let f = under c.args.before.now in
    let none = drop_all c.loop-item.item-index c.args.items.now c.loop-item-test.false in
    arms-end f c.args.items.now (under c.args.after.now) (under c.loop-item.after) _
    (subst (λ (xs : List CaseItem). ArmsSoFar f c.args.items.now xs (under c.args.after.now) (under c.loop-item.after) (option_map (λ (n : Bor Text). n.now) c.loop-item.clash)) none c.loop-item.invariant)
