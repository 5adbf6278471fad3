use Rattle.std.proofs.Common.{◌≡◌, ◌+◌, ◌-◌, map, refl, arith, rules}
use Rattle.verilog_stmts.specs.Forms.{subject_tree, arm_tree_of}
use Rattle.std.proofs.lemmas.Result.{err_from_is_err_and}
use Rattle.verilog_exprs.proofs.Steps.{halts_for_memory}
use Rattle.verilog_stmts.proofs.StmtSteps as Steps
use Rattle.verilog_stmts.proofs.stmt.+stmt.Goals as goal

pub read_stmt-returns-in-Some-clause-read : goal.read_stmt-returns-in-Some-clause-read
read_stmt-returns-in-Some-clause-read t c = Steps.stmt_null _ _ _ _ _ c.in-Some.ensures.found.1 c.make_null.ensures

pub read_stmt-returns-in_err-below-clause-halts : goal.read_stmt-returns-in_err-below-clause-halts
read_stmt-returns-in_err-below-clause-halts t c = let s = c.starts_target.ensures.starts c.if-starts_target.true in
    let p = err_from_is_err_and c.from_residual.result c.from_residual.ensures.1 in
    rw (p.1, p.2) (Steps.stmt_deep _ _ _ _ c.in_default.ensures.free s.1 c.in_err-below.ensures.high c.in_err-below.ensures.refused)

pub read_stmt-returns-then-starts_target-clause-read : goal.read_stmt-returns-then-starts_target-clause-read
read_stmt-returns-then-starts_target-clause-read t c = let s = c.starts_target.ensures.starts c.if-starts_target.true in
    rw (Steps.stmt_set _ _ _ _ c.in_default.ensures.free s.1 c.in_ok-below.ensures.less) c.read_set.ensures.read

pub read_stmt-returns-clause-read : goal.read_stmt-returns-clause-read
read_stmt-returns-clause-read t c = rw (Steps.stmt_compound _ _ c.in_default.ensures.free (c.starts_target.ensures.free c.if-starts_target.false)) c.read_compound.ensures.read

pub read_stmt-returns-then-starts_target-clause-halts : goal.read_stmt-returns-then-starts_target-clause-halts
read_stmt-returns-then-starts_target-clause-halts t c = let s = c.starts_target.ensures.starts c.if-starts_target.true in
    rw (Steps.stmt_set _ _ _ _ c.in_default.ensures.free s.1 c.in_ok-below.ensures.less) c.read_set.ensures.halts

pub read_stmt-returns-clause-halts : goal.read_stmt-returns-clause-halts
read_stmt-returns-clause-halts t c = rw (Steps.stmt_compound _ _ c.in_default.ensures.free (c.starts_target.ensures.free c.if-starts_target.false)) c.read_compound.ensures.halts

pub read_compound-returns-in_err-below-clause-halts : goal.read_compound-returns-in_err-below-clause-halts
read_compound-returns-in_err-below-clause-halts t c = let p = err_from_is_err_and c.from_residual.result c.from_residual.ensures.1 in
    rw (p.1, p.2) (Steps.compound_if_deep _ _ _ _ _ c.in-Some.ensures.found.1 c.in_err-below.ensures.high c.in_err-below.ensures.refused)

pub read_compound-returns-in-Some-clause-read : goal.read_compound-returns-in-Some-clause-read
read_compound-returns-in-Some-clause-read t c = rw (Steps.compound_if _ _ _ _ _ c.in-Some.ensures.found.1 c.in_ok-below.ensures.less) c.read_if.ensures.read

pub read_compound-returns-in-Some-after_case-clause-read : goal.read_compound-returns-in-Some-after_case-clause-read
read_compound-returns-in-Some-after_case-clause-read t c = rw (Steps.compound_case _ _ _ _ _ _ c.in_default.ensures.free c.in-Some-after_case.ensures.found.1 c.in_ok-below-2.ensures.less) c.read_case.ensures.read

pub read_compound-returns-clause-read : goal.read_compound-returns-clause-read
read_compound-returns-clause-read t c = rw (Steps.compound_begin _ _ _ _ c.in_default.ensures.free c.in_default-after_case.ensures.free c.in_ok-inner.ensures.found.1) c.read_block.ensures.read

pub read_compound-returns-in-Some-clause-halts : goal.read_compound-returns-in-Some-clause-halts
read_compound-returns-in-Some-clause-halts t c = rw (Steps.compound_if _ _ _ _ _ c.in-Some.ensures.found.1 c.in_ok-below.ensures.less) c.read_if.ensures.halts

pub read_compound-returns-in-Some-after_case-clause-halts : goal.read_compound-returns-in-Some-after_case-clause-halts
read_compound-returns-in-Some-after_case-clause-halts t c = rw (Steps.compound_case _ _ _ _ _ _ c.in_default.ensures.free c.in-Some-after_case.ensures.found.1 c.in_ok-below-2.ensures.less) c.read_case.ensures.halts

pub read_compound-returns-clause-halts : goal.read_compound-returns-clause-halts
read_compound-returns-clause-halts t c = rw (Steps.compound_begin _ _ _ _ c.in_default.ensures.free c.in_default-after_case.ensures.free c.in_ok-inner.ensures.found.1) c.read_block.ensures.halts

pub read_compound-returns-in_err-below-2-clause-halts : goal.read_compound-returns-in_err-below-2-clause-halts
read_compound-returns-in_err-below-2-clause-halts t c = let p = err_from_is_err_and c.from_residual-in_err-below-2.result c.from_residual-in_err-below-2.ensures.1 in
    rw (p.1, p.2) (Steps.compound_case_deep _ _ _ _ _ c.in_default.ensures.free c.in-Some-after_case.ensures.found.1 c.in_err-below-2.ensures.high c.in_err-below-2.ensures.refused)

pub read_compound-returns-in_err-inner-clause-halts : goal.read_compound-returns-in_err-inner-clause-halts
read_compound-returns-in_err-inner-clause-halts t c = let p = err_from_is_err_and c.from_residual-in_err-inner.result c.from_residual-in_err-inner.ensures.1 in
    rw (p.1, p.2) (Steps.compound_refused _ _ _ c.in_default.ensures.free c.in_default-after_case.ensures.free c.in_err-inner.ensures.free c.in_err-inner.ensures.refused)

pub read_if-returns-in_err-cond-clause-halts : goal.read_if-returns-in_err-cond-clause-halts
read_if-returns-in_err-cond-clause-halts t c = let p = err_from_is_err_and c.from_residual.result c.from_residual.ensures.1 in
    rw (p.1, p.2) (Steps.if_condition_halts c.args.left c.args.tokens.now _ c.in_err-cond.ensures.halts)

pub read_if-returns-in_err-yes-clause-halts : goal.read_if-returns-in_err-yes-clause-halts
read_if-returns-in_err-yes-clause-halts t c = let p = err_from_is_err_and c.from_residual-in_err-yes.result c.from_residual-in_err-yes.ensures.1 in
    rw (p.1, p.2) (Steps.if_branch_halts c.args.left c.args.tokens.now _ _ _ c.in_ok-cond.ensures.read c.in_err-yes.ensures.halts)

pub read_if-returns-in_err-make_when-clause-halts : goal.read_if-returns-in_err-make_when-clause-halts
read_if-returns-in_err-make_when-clause-halts t c = let p = err_from_is_err_and c.from_residual-in_err-make_when.result c.from_residual-in_err-make_when.ensures.1 in
    rw p.1 (halts_for_memory _ _ p.2)

pub read_if-returns-in_default-clause-read : goal.read_if-returns-in_default-clause-read
read_if-returns-in_default-clause-read t c = Steps.if_when c.args.left c.args.tokens.now _ _ _ _ _ c.in_ok-cond.ensures.read c.in_ok-yes.ensures.read c.in_default.ensures.free c.in_ok-make_when.ensures

pub read_if-returns-in_default-clause-nearest : goal.read_if-returns-in_default-clause-nearest
read_if-returns-in_default-clause-nearest t c = λ _. c.in_default.ensures.free

pub read_if-returns-in_err-other-clause-halts : goal.read_if-returns-in_err-other-clause-halts
read_if-returns-in_err-other-clause-halts t c = let p = err_from_is_err_and c.from_residual-in_err-other.result c.from_residual-in_err-other.ensures.1 in
    rw (p.1, p.2) (Steps.if_other_halts c.args.left c.args.tokens.now _ _ _ _ _ _ _ c.in_ok-cond.ensures.read c.in_ok-yes.ensures.read c.in_ok-yes.ensures.nearest c.in-Some.ensures.found.1 c.in_err-other.ensures.halts)

pub read_if-returns-in_err-make_either-clause-halts : goal.read_if-returns-in_err-make_either-clause-halts
read_if-returns-in_err-make_either-clause-halts t c = let p = err_from_is_err_and c.from_residual-in_err-make_either.result c.from_residual-in_err-make_either.ensures.1 in
    rw p.1 (halts_for_memory _ _ p.2)

pub read_if-returns-clause-read : goal.read_if-returns-clause-read
read_if-returns-clause-read t c = Steps.if_either c.args.left c.args.tokens.now _ _ _ _ _ _ _ _ _ c.in_ok-cond.ensures.read c.in_ok-yes.ensures.read c.in_ok-yes.ensures.nearest c.in-Some.ensures.found.1 c.in_ok-other.ensures.read c.in_ok-make_either.ensures

pub read_if-returns-clause-nearest : goal.read_if-returns-clause-nearest
read_if-returns-clause-nearest t c = Steps.lacks_either _ _ _ _ _ c.in_ok-make_either.ensures c.in_ok-other.ensures.nearest

pub read_case-returns-in_err-compared-clause-halts : goal.read_case-returns-in_err-compared-clause-halts
read_case-returns-in_err-compared-clause-halts t c = let p = err_from_is_err_and c.from_residual.result c.from_residual.ensures.1 in
    rw (p.1, p.2) (Steps.case_subject_halts c.args.left c.args.masks c.args.tokens.now _ c.in_err-compared.ensures.halts)

pub read_case-returns-in-Some-clause-read : goal.read_case-returns-in-Some-clause-read
read_case-returns-in-Some-clause-read t c = rw (Steps.case_default c.args.left c.args.masks c.args.tokens.now _ _ _ _ _ c.in_ok-compared.ensures.read c.in-Some.ensures.found.1 c.new.ensures) c.read_default.ensures.read

pub read_case-returns-in-None-clause-read : goal.read_case-returns-in-None-clause-read
read_case-returns-in-None-clause-read t c = rw (Steps.case_items c.args.left c.args.masks c.args.tokens.now _ _ c.in_ok-compared.ensures.read c.in-None.ensures.free) c.read_items.ensures.read

pub read_case-returns-in-Some-clause-halts : goal.read_case-returns-in-Some-clause-halts
read_case-returns-in-Some-clause-halts t c = rw (Steps.case_default c.args.left c.args.masks c.args.tokens.now _ _ _ _ _ c.in_ok-compared.ensures.read c.in-Some.ensures.found.1 c.new.ensures) c.read_default.ensures.halts

pub read_case-returns-in-None-clause-halts : goal.read_case-returns-in-None-clause-halts
read_case-returns-in-None-clause-halts t c = rw (Steps.case_items c.args.left c.args.masks c.args.tokens.now _ _ c.in_ok-compared.ensures.read c.in-None.ensures.free) c.read_items.ensures.halts

pub read_items-returns-in_err-first-clause-halts : goal.read_items-returns-in_err-first-clause-halts
read_items-returns-in_err-first-clause-halts t c = let p = err_from_is_err_and c.from_residual.result c.from_residual.ensures.1 in
    rw (p.1, p.2) (Steps.items_first_halts c.args.left (subject_tree c.args.subject) c.args.tokens.now _ c.in_err-first.ensures.halts)

pub read_items-returns-in_err-push-clause-halts : goal.read_items-returns-in_err-push-clause-halts
read_items-returns-in_err-push-clause-halts t c = let p = err_from_is_err_and c.from_residual-in_err-push.result c.from_residual-in_err-push.ensures.1 in
    rw p.1 (halts_for_memory _ _ p.2)

pub read_items-items-init : goal.read_items-items-init
read_items-items-init t c = record {
  lists = Steps.items_first _ _ _ _ _ _ c.in_ok-first.ensures.read (search rules);
  same = refl;
  shorter = omega (arith, c.in_ok-first.ensures.shorter);
}

pub read_items-returns-in-Some-clause-read : goal.read_items-returns-in-Some-clause-read
read_items-returns-in-Some-clause-read t c = Steps.items_end _ _ _ _ _ _ _ _ _ c.items.invariant.lists c.in-Some.ensures.found.1 c.make_switch.ensures c.items.invariant.same

pub read_items-returns-in-Some-clause-nearest : goal.read_items-returns-in-Some-clause-nearest
read_items-returns-in-Some-clause-nearest t c = Steps.takes_none _ _ _ c.make_switch.ensures refl

pub read_items-returns-in-Some-after_word-clause-read : goal.read_items-returns-in-Some-after_word-clause-read
read_items-returns-in-Some-after_word-clause-read t c = rw (Steps.items_default _ _ _ _ _ _ _ _ c.items.invariant.lists c.in-Some-after_word.ensures.found.1 c.items.invariant.same) c.read_default.ensures.read

pub read_items-returns-in-Some-after_word-clause-halts : goal.read_items-returns-in-Some-after_word-clause-halts
read_items-returns-in-Some-after_word-clause-halts t c = rw (Steps.items_default _ _ _ _ _ _ _ _ c.items.invariant.lists c.in-Some-after_word.ensures.found.1 c.items.invariant.same) c.read_default.ensures.halts

pub read_items-returns-in_err-next-clause-halts : goal.read_items-returns-in_err-next-clause-halts
read_items-returns-in_err-next-clause-halts t c = let p = err_from_is_err_and c.from_residual-in_err-next.result c.from_residual-in_err-next.ensures.1 in
    rw (p.1, p.2) (Steps.items_halt _ _ _ _ _ _ c.items.invariant.lists c.in_default.ensures.free c.in_default-after_word.ensures.free c.in_err-next.ensures.halts)

pub read_items-returns-in_err-push-2-clause-halts : goal.read_items-returns-in_err-push-2-clause-halts
read_items-returns-in_err-push-2-clause-halts t c = let p = err_from_is_err_and c.from_residual-in_err-push-2.result c.from_residual-in_err-push-2.ensures.1 in
    rw p.1 (halts_for_memory _ _ p.2)

pub read_items-items-preserved : goal.read_items-items-preserved
read_items-items-preserved t c = record {
  lists = Steps.items_more _ _ _ _ _ _ _ _ c.items.invariant.lists c.in_default.ensures.free c.in_default-after_word.ensures.free c.in_ok-next.ensures.read c.in_ok-push-2.ensures.pushed;
  same = c.items.invariant.same;
  shorter = omega (arith, c.in_ok-next.ensures.shorter, c.items.invariant.shorter);
}

pub read_default-returns-in_err-body-clause-halts : goal.read_default-returns-in_err-body-clause-halts
read_default-returns-in_err-body-clause-halts t c = let p = err_from_is_err_and c.from_residual.result c.from_residual.ensures.1 in
    rw (p.1, p.2) (Steps.default_body_halts c.args.left (subject_tree c.args.subject) (map arm_tree_of c.args.items) c.args.tokens.now _ _ c.without_colon.ensures.found c.in_err-body.ensures.halts)

pub read_default-returns-in_err-all-clause-halts : goal.read_default-returns-in_err-all-clause-halts
read_default-returns-in_err-all-clause-halts t c = let p = err_from_is_err_and c.from_residual-in_err-all.result c.from_residual-in_err-all.ensures.1 in
    rw (p.1, p.2) (Steps.default_rows_halt c.args.left (subject_tree c.args.subject) (map arm_tree_of c.args.items) c.args.tokens.now _ _ _ _ c.without_colon.ensures.found c.in_ok-body.ensures.read c.in_err-all.ensures.halts)

pub read_default-returns-in_err-make_switch_else-clause-halts : goal.read_default-returns-in_err-make_switch_else-clause-halts
read_default-returns-in_err-make_switch_else-clause-halts t c = let p = err_from_is_err_and c.from_residual-in_err-make_switch_else.result c.from_residual-in_err-make_switch_else.ensures.1 in
    rw p.1 (halts_for_memory _ _ p.2)

pub read_default-returns-clause-read : goal.read_default-returns-clause-read
read_default-returns-clause-read t c = Steps.default_done c.args.left (subject_tree c.args.subject) (map arm_tree_of c.args.items) c.args.tokens.now _ _ _ _ _ _ c.without_colon.ensures.found c.in_ok-body.ensures.read c.in_ok-all.ensures.read c.in_ok-make_switch_else.ensures

pub read_default-returns-clause-nearest : goal.read_default-returns-clause-nearest
read_default-returns-clause-nearest t c = Steps.takes_none _ _ _ c.in_ok-make_switch_else.ensures refl

pub read_last_items-items-init : goal.read_last_items-items-init
read_last_items-items-init t c = record { lists = Steps.last_items_none _ _ _ _; shorter = omega arith }

pub read_last_items-returns-in-Some-clause-read : goal.read_last_items-returns-in-Some-clause-read
read_last_items-returns-in-Some-clause-read t c = Steps.last_items_end _ _ _ _ _ _ _ _ c.items.invariant.lists c.in-Some.ensures.found.1

pub read_last_items-returns-in_err-next-clause-halts : goal.read_last_items-returns-in_err-next-clause-halts
read_last_items-returns-in_err-next-clause-halts t c = let p = err_from_is_err_and c.from_residual.result c.from_residual.ensures.1 in
    rw (p.1, p.2) (Steps.last_items_halt _ _ _ _ _ _ _ c.items.invariant.lists c.in_default.ensures.free c.in_err-next.ensures.halts)

pub read_last_items-returns-in_err-push-clause-halts : goal.read_last_items-returns-in_err-push-clause-halts
read_last_items-returns-in_err-push-clause-halts t c = let p = err_from_is_err_and c.from_residual-in_err-push.result c.from_residual-in_err-push.ensures.1 in
    rw p.1 (halts_for_memory _ _ p.2)

pub read_last_items-items-preserved : goal.read_last_items-items-preserved
read_last_items-items-preserved t c = record {
  lists = Steps.last_items_more _ _ _ _ _ _ _ _ _ c.items.invariant.lists c.in_default.ensures.free c.in_ok-next.ensures.read c.in_ok-push.ensures.pushed;
  shorter = omega (arith, c.in_ok-next.ensures.shorter, c.items.invariant.shorter);
}

pub read_arm-returns-in_err-labels-clause-halts : goal.read_arm-returns-in_err-labels-clause-halts
read_arm-returns-in_err-labels-clause-halts t c = let p = err_from_is_err_and c.from_residual.result c.from_residual.ensures.1 in
    rw (p.1, p.2) (Steps.arm_labels_halt c.args.left c.args.masks c.args.tokens.now _ c.in_err-labels.ensures.halts)

pub read_arm-returns-in_err-inner-clause-halts : goal.read_arm-returns-in_err-inner-clause-halts
read_arm-returns-in_err-inner-clause-halts t c = let p = err_from_is_err_and c.from_residual-in_err-inner.result c.from_residual-in_err-inner.ensures.1 in
    rw (p.1, p.2) (Steps.arm_colon_halts c.args.left c.args.masks c.args.tokens.now _ _ _ c.in_ok-labels.ensures.read c.in_err-inner.ensures.free c.in_err-inner.ensures.refused)

pub read_arm-returns-in_err-body-clause-halts : goal.read_arm-returns-in_err-body-clause-halts
read_arm-returns-in_err-body-clause-halts t c = let p = err_from_is_err_and c.from_residual-in_err-body.result c.from_residual-in_err-body.ensures.1 in
    rw (p.1, p.2) (Steps.arm_body_halts c.args.left c.args.masks c.args.tokens.now _ _ _ _ _ c.in_ok-labels.ensures.read c.in_ok-inner.ensures.found.1 c.in_err-body.ensures.halts)

pub read_arm-returns-clause-read : goal.read_arm-returns-clause-read
read_arm-returns-clause-read t c = Steps.arm_done c.args.left c.args.masks c.args.tokens.now _ _ _ _ _ _ _ c.in_ok-labels.ensures.read c.in_ok-inner.ensures.found.1 c.in_ok-body.ensures.read c.make_arm.ensures

pub read_block-returns-in_err-inner-clause-halts : goal.read_block-returns-in_err-inner-clause-halts
read_block-returns-in_err-inner-clause-halts t c = let p = err_from_is_err_and c.from_residual.result c.from_residual.ensures.1 in
    rw (p.1, p.2) (Steps.block_label_halts c.args.left c.args.tokens.now _ c.in_err-inner.ensures.halts)

pub read_block-returns-then-left-eq0-clause-read : goal.read_block-returns-then-left-eq0-clause-read
read_block-returns-then-left-eq0-clause-read t c = rw (Steps.block_empty _ _ _ c.in_ok-inner.ensures.found c.if-left-eq0.true) c.read_empty_block.ensures.read

pub read_block-returns-then-left-eq0-clause-halts : goal.read_block-returns-then-left-eq0-clause-halts
read_block-returns-then-left-eq0-clause-halts t c = rw (Steps.block_empty _ _ _ c.in_ok-inner.ensures.found c.if-left-eq0.true) c.read_empty_block.ensures.halts

pub read_block-returns-in_err-body-clause-halts : goal.read_block-returns-in_err-body-clause-halts
read_block-returns-in_err-body-clause-halts t c = let i : c.args.left - 1 + 1 ≡ c.args.left = omega (arith, c.if-left-eq0.false) in
    let p = err_from_is_err_and c.from_residual-in_err-body.result c.from_residual-in_err-body.ensures.1 in
    rw (p.1, p.2) (Steps.block_halts c.args.left (c.args.left - 1) c.args.tokens.now _ _ c.in_ok-inner.ensures.found i c.in_err-body.ensures.halts)

pub read_block-returns-clause-read : goal.read_block-returns-clause-read
read_block-returns-clause-read t c = let i : c.args.left - 1 + 1 ≡ c.args.left = omega (arith, c.if-left-eq0.false) in
    Steps.block_done c.args.left (c.args.left - 1) c.args.tokens.now _ _ _ _ _ c.in_ok-inner.ensures.found i c.in_ok-body.ensures.read.1 c.make_block.ensures

pub read_block-returns-clause-nearest : goal.read_block-returns-clause-nearest
read_block-returns-clause-nearest t c = Steps.takes_none _ _ _ c.make_block.ensures refl

pub read_stmts-stmts-init : goal.read_stmts-stmts-init
read_stmts-stmts-init t c = record { lists = Steps.stmts_none _ _ _ (search rules); shorter = omega arith }

pub read_stmts-returns-in-Some-clause-read : goal.read_stmts-returns-in-Some-clause-read
read_stmts-returns-in-Some-clause-read t c = Steps.stmts_end _ _ _ _ _ _ c.stmts.invariant.lists c.in-Some.ensures.found.1

pub read_stmts-returns-in_err-next-clause-halts : goal.read_stmts-returns-in_err-next-clause-halts
read_stmts-returns-in_err-next-clause-halts t c = let p = err_from_is_err_and c.from_residual.result c.from_residual.ensures.1 in
    rw (p.1, p.2) (Steps.stmts_halt _ _ _ _ _ c.stmts.invariant.lists c.in_default.ensures.free c.in_err-next.ensures.halts)

pub read_stmts-returns-in_err-push-clause-halts : goal.read_stmts-returns-in_err-push-clause-halts
read_stmts-returns-in_err-push-clause-halts t c = let p = err_from_is_err_and c.from_residual-in_err-push.result c.from_residual-in_err-push.ensures.1 in
    rw p.1 (halts_for_memory _ _ p.2)

pub read_stmts-stmts-preserved : goal.read_stmts-stmts-preserved
read_stmts-stmts-preserved t c = record {
  lists = Steps.stmts_more _ _ _ _ _ _ _ c.stmts.invariant.lists c.in_default.ensures.free c.in_ok-next.ensures.read c.in_ok-push.ensures.pushed;
  shorter = omega (arith, c.in_ok-next.ensures.shorter, c.stmts.invariant.shorter);
}
