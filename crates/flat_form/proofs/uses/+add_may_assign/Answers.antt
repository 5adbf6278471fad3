use Rattle.std.proofs.Common.{List, map, Option, Box, Global, refl, subst, ap, ◌∙◌}
use Rattle.std.proofs.lemmas.Result.{IfOk-weaker}
use Rattle.flat_meaning.specs.Flat.{no_items, assigns, case_assigns, all_assign}
use Rattle.flat_meaning.specs.Design.{width_in}
use Rattle.flat_meaning.specs.Assigned.{may_assign, may_assign_in, any_may_assign}
use Rattle.flat_form.specs.declared.flat.FStmt.{FStmt}
use Rattle.flat_form.specs.declared.flat.FStmt.TheVariants as s
use Rattle.flat_form.specs.declared.flat.FCaseItem.{FCaseItem}
use Rattle.flat_form.specs.View.{stmt_of, stmts_of, arm_of, items_of}
use Rattle.flat_form.specs.Masks.{bits_in, has_signal, Adds, Lists}
use Rattle.flat_form.proofs.ExprUses.{list-step}
use Rattle.flat_form.proofs.StmtUses.{item-assigns, block-assigns, case-assigns}
use Rattle.flat_form.proofs.Listed.{names-step, block-names, case-names, item-names}
use Rattle.flat_form.proofs.uses.+add_may_assign.Goals as goal

pub add_items_may_assign-loop-item-preserved : goal.add_items_may_assign-loop-item-preserved
add_items_may_assign-loop-item-preserved t c =
    let wid = width_in c.args.signals.now in
    let rs = λ (xs : List FCaseItem). may_assign_in wid (items_of (map arm_of xs) no_items) in
    let all = c.args.items.now in
    let x = c.item-item.result in
    let names = λ (xs : List FCaseItem). case_assigns (items_of (map arm_of xs) no_items) in
    record {
      added = list-step rs (λ (x : FCaseItem). may_assign wid (arm_of x).body) (bits_in c.args.assigned.now) c.loop-item.assigned c.add_may_assign.new.assigned (rs all) all c.loop-item.item-index x c.loop-item-test.true c.item-item.is refl c.loop-item.invariant.added (item-assigns wid c.loop-item.assigned c.add_may_assign.new.assigned x c.in_ok-add_may_assign.ensures.added);
      listed = names-step names (λ (x : FCaseItem). assigns (arm_of x).body) (has_signal c.args.assigned.now) c.loop-item.assigned c.add_may_assign.new.assigned (names all) all c.loop-item.item-index x c.loop-item-test.true c.item-item.is refl c.loop-item.invariant.listed (item-names c.loop-item.assigned c.add_may_assign.new.assigned x c.in_ok-add_may_assign.ensures.listed);
    }

pub add_may_assign-returns-in-Some-default : goal.add_may_assign-returns-in-Some-default
add_may_assign-returns-in-Some-default t c =
    let wid = width_in c.args.signals.now in
    let i = c.in-Case in
    let d = c.in-Some-default in
    let old = c.args.assigned.now in
    let middle = c.add_items_may_assign.new.assigned in
    let last = c.add_may_assign-in-Some-default.new.assigned in
    record {
      added = IfOk-weaker c.add_may_assign-in-Some-default.result _ _ (λ _ h.
          case-assigns wid c.args.stmt.now old middle last i.subject i.items d.default (i.is ∙ ap (λ (o : Option (Box FStmt Global)). s.Case i.subject i.items o) d.is)
          (subst (λ (is : List FCaseItem). Adds old middle (may_assign_in wid (items_of (map arm_of is) no_items))) c.as_slice.ensures c.in_ok-add_items_may_assign-in-Case.ensures.added)
          (subst (λ (x : FStmt). Adds middle last (may_assign wid (stmt_of x))) c.deref-in-Some-default.ensures h)) c.add_may_assign-in-Some-default.ensures.added;
      listed = IfOk-weaker c.add_may_assign-in-Some-default.result _ _ (λ _ h.
          case-names c.args.stmt.now old middle last i.subject i.items d.default (i.is ∙ ap (λ (o : Option (Box FStmt Global)). s.Case i.subject i.items o) d.is)
          (subst (λ (is : List FCaseItem). Lists old middle (case_assigns (items_of (map arm_of is) no_items))) c.as_slice.ensures c.in_ok-add_items_may_assign-in-Case.ensures.listed)
          (subst (λ (x : FStmt). Lists middle last (assigns (stmt_of x))) c.deref-in-Some-default.ensures h)) c.add_may_assign-in-Some-default.ensures.listed;
    }

pub add_may_assign-returns-in-Block : goal.add_may_assign-returns-in-Block
add_may_assign-returns-in-Block t c =
    let wid = width_in c.args.signals.now in
    let old = c.args.assigned.now in
    let new = c.add_block_may_assign.new.assigned in
    record {
      added = IfOk-weaker c.add_block_may_assign.result _ _ (λ _ h. block-assigns wid c.args.stmt.now old new c.in-Block.stmts c.in-Block.is
          (subst (λ (ss : List FStmt). Adds old new (any_may_assign wid (stmts_of (map stmt_of ss)))) c.as_slice-in-Block.ensures h)) c.add_block_may_assign.ensures.added;
      listed = IfOk-weaker c.add_block_may_assign.result _ _ (λ _ h. block-names c.args.stmt.now old new c.in-Block.stmts c.in-Block.is
          (subst (λ (ss : List FStmt). Lists old new (all_assign (stmts_of (map stmt_of ss)))) c.as_slice-in-Block.ensures h)) c.add_block_may_assign.ensures.listed;
    }
