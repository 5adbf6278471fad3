-- What each statement may assign is added.
use Rattle.std.proofs.Common.{rules, arith, ◌≡◌, ℕ, ◌+◌, ◌<◌, ◌≤◌, ◌||◌, List, [], ◌∷◌, map, drop, length, refl, sym, ap, ◌∙◌}
use Rattle.std.proofs.lemmas.List.{drop_more, drop_all}
use Rattle.flat_form.specs.declared.flat.FStmt.{FStmt}
use Rattle.flat_form.specs.declared.flat.FCaseItem.{FCaseItem}
use Rattle.flat_form.specs.declared.flat.FStmt.TheVariants as v
use Rattle.flat_form.specs.View.{stmt_of, stmts_of, arm_of, items_of}
use Rattle.flat_form.proofs.StmtFolds.{stmt_of-Null, stmt_of-Set, stmt_of-Block}
use Rattle.flat_meaning.specs.Flat.{no_items, assigns, all_assign, case_assigns}
use Rattle.flat_meaning.specs.Assigned.{may_assign, any_may_assign, may_assign_in}
use Rattle.driver_trees.specs.Statements.{other_of}
use Rattle.driver_trees.proofs.Growing.{ok-map}
use Rattle.driver_trees.proofs.Collected.{adds_none, adds_as, adds_both, some_first, some_more, some_last, if_adds, case_adds, arm_body}
use Rattle.driver_trees.proofs.assigned.+collect.Goals as goal

pub collect-returns-in-Null : goal.collect-returns-in-Null
collect-returns-in-Null t c = record {
  adds = λ wid widths. let is = ap stmt_of c.in-Null.is ∙ stmt_of-Null in
      adds_as (adds_none c.args.assigned.now) (λ x. sym (ap (λ s. assigns s x) is)) (λ x i l. sym (ap (λ s. may_assign wid s x i) is));
}

pub collect-returns-in-Set : goal.collect-returns-in-Set
collect-returns-in-Set t c = record {
  adds = λ wid widths. let is = ap stmt_of c.in-Set.is ∙ stmt_of-Set c.in-Set.blocking c.in-Set.target c.in-Set.value in
      ok-map c.collect_target.result (λ u h. adds_as h (λ x. sym (ap (λ s. assigns s x) is)) (λ x i l. sym (ap (λ s. may_assign wid s x i) is))) (c.collect_target.ensures.adds wid widths);
}

pub collect-returns-in_ok-collect-in-If : goal.collect-returns-in_ok-collect-in-If
collect-returns-in_ok-collect-in-If t c = record {
  adds = λ wid widths.
      let f = if_adds c.args.statement.now c.in-If.cond c.in-If.yes c.in-If.other c.in-If.is in
      let yes : c.in-If.yes.value ≡ c.deref.result.now = search rules in
      let first = adds_as (c.in_ok-collect-in-If.ensures.adds wid widths) (λ x. ap (λ s. assigns (stmt_of s) x) (sym yes)) (λ x i l. ap (λ s. may_assign wid (stmt_of s) x i) (sym yes)) in
      ok-map c.collect_other.result (λ u h. adds_as (adds_both first h) (λ x. f.0 x) (λ x i l. f.1 wid x i)) (c.collect_other.ensures.adds wid widths);
}

pub collect-returns-in_ok-collect_items-in-Case : goal.collect-returns-in_ok-collect_items-in-Case
collect-returns-in_ok-collect_items-in-Case t c = record {
  adds = λ wid widths.
      let items = c.as_slice.result.now in
      let at : c.args.statement.now ≡ v.Case c.in-Case.subject items c.in-Case.default = c.in-Case.is ∙ ap (λ is. v.Case c.in-Case.subject is c.in-Case.default) (sym c.as_slice.ensures) in
      let f = case_adds c.args.statement.now c.in-Case.subject items c.in-Case.default at in
      ok-map c.collect_other-in-Case.result (λ u h. adds_as (adds_both (c.in_ok-collect_items-in-Case.ensures.adds wid widths) h) (λ x. f.0 x) (λ x i l. f.1 wid x i)) (c.collect_other-in-Case.ensures.adds wid widths);
}

pub collect-returns-in-Block : goal.collect-returns-in-Block
collect-returns-in-Block t c = record {
  adds = λ wid widths.
      let parts = c.as_slice-in-Block.result.now in
      let at : c.args.statement.now ≡ v.Block parts = c.in-Block.is ∙ ap v.Block (sym c.as_slice-in-Block.ensures) in
      let is = ap stmt_of at ∙ stmt_of-Block parts in
      ok-map c.collect_all.result (λ u h. adds_as h (λ x. sym (ap (λ s. assigns s x) is)) (λ x i l. sym (ap (λ s. may_assign wid s x i) is))) (c.collect_all.ensures.adds wid widths);
}

pub collect_other-returns-in-Some : goal.collect_other-returns-in-Some
collect_other-returns-in-Some t c = record {
  adds = λ wid widths.
      let is : other_of c.args.other.now ≡ stmt_of c.deref.result.now = ap other_of c.in-Some.is ∙ ap stmt_of (sym c.deref.ensures) in
      ok-map c.collect.result (λ u h. adds_as h (λ x. sym (ap (λ s. assigns s x) is)) (λ x i l. sym (ap (λ s. may_assign wid s x i) is))) (c.collect.ensures.adds wid widths);
}

pub collect_other-returns-in-None : goal.collect_other-returns-in-None
collect_other-returns-in-None t c = record {
  adds = λ wid widths. let is = ap other_of c.in-None.is in
      adds_as (adds_none c.args.assigned.now) (λ x. sym (ap (λ s. assigns s x) is)) (λ x i l. sym (ap (λ s. may_assign wid s x i) is));
}

pub collect_all-loop-part-init : goal.collect_all-loop-part-init
collect_all-loop-part-init t c = λ wid widths. some_first c.args.assigned.now _ _

pub collect_all-loop-part-preserved : goal.collect_all-loop-part-preserved
collect_all-loop-part-preserved t c = λ wid widths.
    let parts = c.args.parts.now in let k = c.loop-part.part-index in let part = c.part-item.result in
    let next : drop k parts ≡ part ∷ drop (k + 1) parts = drop_more parts k part (omega (arith, c.loop-part-test.true, c.loop-part.auto.part-index-end)) ∙ ap (λ y. y ∷ drop (k + 1) parts) (sym c.part-item.is) in
    some_more (c.loop-part.invariant wid widths) (c.in_ok-collect.ensures.adds wid widths) (λ x. sym (ap (λ l. all_assign (stmts_of (map stmt_of l)) x) next))
    (λ x i. sym (ap (λ l. any_may_assign wid (stmts_of (map stmt_of l)) x i) next))

pub collect_all-returns : goal.collect_all-returns
collect_all-returns t c = record {
  adds = λ wid widths.
      let none : drop c.loop-part.part-index c.args.parts.now ≡ [] = drop_all c.loop-part.part-index c.args.parts.now (omega (arith, c.loop-part-test.false)) in
      some_last (c.loop-part.invariant wid widths) (λ x. ap (λ l. all_assign (stmts_of (map stmt_of l)) x) none) (λ x i. ap (λ l. any_may_assign wid (stmts_of (map stmt_of l)) x i) none);
}

pub collect_items-loop-item-init : goal.collect_items-loop-item-init
collect_items-loop-item-init t c = λ wid widths. some_first c.args.assigned.now _ _

pub collect_items-loop-item-preserved : goal.collect_items-loop-item-preserved
collect_items-loop-item-preserved t c = λ wid widths.
    let items = c.args.items.now in let k = c.loop-item.item-index in let item = c.item-item.result in let rest = items_of (map arm_of (drop (k + 1) items)) no_items in
    let next : drop k items ≡ item ∷ drop (k + 1) items = drop_more items k item (omega (arith, c.loop-item-test.true, c.loop-item.auto.item-index-end)) ∙ ap (λ y. y ∷ drop (k + 1) items) (sym c.item-item.is) in
    let body = arm_body item in
    some_more (c.loop-item.invariant wid widths) (c.in_ok-collect.ensures.adds wid widths)
    (λ x. ap (λ s. assigns s x || case_assigns rest x) (sym body) ∙ sym (ap (λ l. case_assigns (items_of (map arm_of l) no_items) x) next))
    (λ x i. ap (λ s. may_assign wid s x i || may_assign_in wid rest x i) (sym body) ∙ sym (ap (λ l. may_assign_in wid (items_of (map arm_of l) no_items) x i) next))

pub collect_items-returns : goal.collect_items-returns
collect_items-returns t c = record {
  adds = λ wid widths.
      let none : drop c.loop-item.item-index c.args.items.now ≡ [] = drop_all c.loop-item.item-index c.args.items.now (omega (arith, c.loop-item-test.false)) in
      some_last (c.loop-item.invariant wid widths) (λ x. ap (λ l. case_assigns (items_of (map arm_of l) no_items) x) none) (λ x i. ap (λ l. may_assign_in wid (items_of (map arm_of l) no_items) x i) none);
}
