use Rattle.std.proofs.Common.{◌≤◌, arith}
use Rattle.std.proofs.lemmas.Result.{err_from_is_err_and}
use Rattle.verilog_reading.specs.ExprTree.{tree_of, height}
use Rattle.verilog_exprs.proofs.Steps.{halts_for_memory}
use Rattle.verilog_exprs.proofs.ExprSteps as Steps
use Rattle.verilog_exprs.proofs.expr.+expr.Goals as goal

pub read_expr-returns-in_err-below-clause-halts : goal.read_expr-returns-in_err-below-clause-halts
read_expr-returns-in_err-below-clause-halts t c = let l : c.args.left ≤ height (tree_of c.in_ok-cond.cond.expr) = omega (arith, c.in_err-below.ensures.high, c.in_ok-cond.ensures.tall) in
    let p = err_from_is_err_and c.from_residual-in_err-below.result c.from_residual-in_err-below.ensures.1 in
    rw (p.1, p.2) (Steps.expr_deep _ _ _ _ _ _ _ c.in_ok-cond.ensures.read c.in-Some.ensures.found.1 l c.in_err-below.ensures.refused)

pub read_expr-returns-in_err-yes-clause-halts : goal.read_expr-returns-in_err-yes-clause-halts
read_expr-returns-in_err-yes-clause-halts t c = let i = c.in_ok-below.ensures.less in
    let l : height (tree_of c.in_ok-cond.cond.expr) ≤ c.in_ok-below.below = omega (arith, c.in_ok-below.ensures.within, c.in_ok-cond.ensures.tall) in
    let p = err_from_is_err_and c.from_residual-in_err-yes.result c.from_residual-in_err-yes.ensures.1 in
    rw (p.1, p.2) (Steps.expr_yes_halts _ _ _ _ _ _ _ _ c.in_ok-cond.ensures.read c.in-Some.ensures.found.1 i l c.in_err-yes.ensures.halts)

pub read_expr-returns-in_err-rest-clause-halts : goal.read_expr-returns-in_err-rest-clause-halts
read_expr-returns-in_err-rest-clause-halts t c = let i = c.in_ok-below.ensures.less in
    let l : height (tree_of c.in_ok-cond.cond.expr) ≤ c.in_ok-below.below = omega (arith, c.in_ok-below.ensures.within, c.in_ok-cond.ensures.tall) in
    let p = err_from_is_err_and c.from_residual-in_err-rest.result c.from_residual-in_err-rest.ensures.1 in
    rw (p.1, p.2) (Steps.expr_colon_halts _ _ _ _ _ _ _ _ _ _ c.in_ok-cond.ensures.read c.in-Some.ensures.found.1 i l c.in_ok-yes.ensures.read c.in_err-rest.ensures.free c.in_err-rest.ensures.refused)

pub read_expr-returns-in_err-other-clause-halts : goal.read_expr-returns-in_err-other-clause-halts
read_expr-returns-in_err-other-clause-halts t c = let i = c.in_ok-below.ensures.less in
    let l : height (tree_of c.in_ok-cond.cond.expr) ≤ c.in_ok-below.below = omega (arith, c.in_ok-below.ensures.within, c.in_ok-cond.ensures.tall) in
    let p = err_from_is_err_and c.from_residual-in_err-other.result c.from_residual-in_err-other.ensures.1 in
    rw (p.1, p.2) (Steps.expr_other_halts _ _ _ _ _ _ _ _ _ _ _ _ c.in_ok-cond.ensures.read c.in-Some.ensures.found.1 i l c.in_ok-yes.ensures.read c.in_ok-rest.ensures.found.1 c.in_err-other.ensures.halts)

pub read_expr-returns-in_err-make_choice-clause-halts : goal.read_expr-returns-in_err-make_choice-clause-halts
read_expr-returns-in_err-make_choice-clause-halts t c = let p = err_from_is_err_and c.from_residual-in_err-make_choice.result c.from_residual-in_err-make_choice.ensures.1 in
    rw p.1 (halts_for_memory _ _ p.2)

pub read_expr-returns-clause-read : goal.read_expr-returns-clause-read
read_expr-returns-clause-read t c = let i = c.in_ok-below.ensures.less in
    let l : height (tree_of c.in_ok-cond.cond.expr) ≤ c.in_ok-below.below = omega (arith, c.in_ok-below.ensures.within, c.in_ok-cond.ensures.tall) in
    Steps.expr_choice _ _ _ _ _ _ _ _ _ _ _ _ _ _ c.in_ok-cond.ensures.read c.in-Some.ensures.found.1 i l c.in_ok-yes.ensures.read c.in_ok-rest.ensures.found.1 c.in_ok-other.ensures.read c.in_ok-make_choice.ensures.tree

pub read_more-returns-in_err-push-clause-halts : goal.read_more-returns-in_err-push-clause-halts
read_more-returns-in_err-push-clause-halts t c = let p = err_from_is_err_and c.from_residual.result c.from_residual.ensures.1 in
    rw p.1 (halts_for_memory _ _ p.2)

pub read_more-returns-in_err-next-clause-halts : goal.read_more-returns-in_err-next-clause-halts
read_more-returns-in_err-next-clause-halts t c = let p = err_from_is_err_and c.from_residual-in_err-next.result c.from_residual-in_err-next.ensures.1 in
    rw (p.1, p.2) (Steps.gathers_halts _ _ _ _ _ _ _ _ c.loop-after.invariant.lists c.in-Some.ensures.found.1 c.in_err-next.ensures.halts)

pub read_more-returns-in_err-push-2-clause-halts : goal.read_more-returns-in_err-push-2-clause-halts
read_more-returns-in_err-push-2-clause-halts t c = let p = err_from_is_err_and c.from_residual-in_err-push-2.result c.from_residual-in_err-push-2.ensures.1 in
    rw p.1 (halts_for_memory _ _ p.2)

pub read_more-loop-after-preserved : goal.read_more-loop-after-preserved
read_more-loop-after-preserved t c = record {
  lists = Steps.gathers_more _ _ _ _ _ _ _ _ _ _ c.loop-after.invariant.lists c.in-Some.ensures.found.1 c.in_ok-next.ensures.read c.in_ok-push-2.ensures.pushed;
  tall = Steps.tall_more _ _ _ _ _ _ c.in_ok-push-2.ensures.pushed c.loop-after.invariant.tall c.in_ok-next.ensures.tall c.max-height.ensures;
  high = omega (arith, c.max-height.ensures, c.in_ok-next.ensures.high, c.loop-after.invariant.high);
  shorter = omega (arith, c.in_ok-next.ensures.shorter, c.in-Some.ensures.shorter, c.loop-after.invariant.shorter);
}

pub read_named-returns-in_err-name-clause-halts : goal.read_named-returns-in_err-name-clause-halts
read_named-returns-in_err-name-clause-halts t c = let p = err_from_is_err_and c.from_residual.result c.from_residual.ensures.1 in
    rw p.1 (halts_for_memory _ _ p.2)

pub read_named-returns-in_err-below-clause-halts : goal.read_named-returns-in_err-below-clause-halts
read_named-returns-in_err-below-clause-halts t c = let l = c.in_err-below.ensures.high in
    let p = err_from_is_err_and c.from_residual-in_err-below.result c.from_residual-in_err-below.ensures.1 in
    rw (p.1, p.2) (Steps.named_deep _ _ _ _ _ _ c.in-Some.ensures.found.1 l c.in_err-below.ensures.refused)

pub read_named-returns-in_err-selected-clause-halts : goal.read_named-returns-in_err-selected-clause-halts
read_named-returns-in_err-selected-clause-halts t c = let i = c.in_ok-below.ensures.less in
    let p = err_from_is_err_and c.from_residual-in_err-selected.result c.from_residual-in_err-selected.ensures.1 in
    rw (p.1, p.2) (Steps.named_halts _ _ _ _ _ _ _ c.in-Some.ensures.found.1 i c.in_err-selected.ensures.halts)

pub read_named-returns-in_err-make_select-clause-halts : goal.read_named-returns-in_err-make_select-clause-halts
read_named-returns-in_err-make_select-clause-halts t c = let p = err_from_is_err_and c.from_residual-in_err-make_select.result c.from_residual-in_err-make_select.ensures.1 in
    rw p.1 (halts_for_memory _ _ p.2)

pub read_operand-returns-in_err-below-clause-halts : goal.read_operand-returns-in_err-below-clause-halts
read_operand-returns-in_err-below-clause-halts t c = let l = c.in_err-below.ensures.high in
    let p = err_from_is_err_and c.from_residual.result c.from_residual.ensures.1 in
    rw (p.1, p.2) (Steps.prefix_deep _ _ _ _ _ c.in-Some.ensures.found.1 l c.in_err-below.ensures.refused)

pub read_operand-returns-in-Some-clause-read : goal.read_operand-returns-in-Some-clause-read
read_operand-returns-in-Some-clause-read t c = let i = c.in_ok-below.ensures.less in
    rw (Steps.prefix_is _ _ _ _ _ _ c.in-Some.ensures.found.1 c.in-Some.ensures.found.2 i) c.read_prefixed.ensures.read

pub read_operand-returns-in-Some-clause-halts : goal.read_operand-returns-in-Some-clause-halts
read_operand-returns-in-Some-clause-halts t c = let i = c.in_ok-below.ensures.less in
    rw (Steps.prefix_is _ _ _ _ _ _ c.in-Some.ensures.found.1 c.in-Some.ensures.found.2 i) c.read_prefixed.ensures.halts

pub read_operand-returns-in_err-below-2-clause-halts : goal.read_operand-returns-in_err-below-2-clause-halts
read_operand-returns-in_err-below-2-clause-halts t c = let l = c.in_err-below-2.ensures.high in
    let p = err_from_is_err_and c.from_residual-in_err-below-2.result c.from_residual-in_err-below-2.ensures.1 in
    rw (p.1, p.2) (Steps.paren_deep _ _ _ _ _ c.in_default.ensures.free c.in-Some-after_mark.ensures.found.1 l c.in_err-below-2.ensures.refused)

pub read_operand-returns-in_err-below-3-clause-halts : goal.read_operand-returns-in_err-below-3-clause-halts
read_operand-returns-in_err-below-3-clause-halts t c = let l = c.in_err-below-3.ensures.high in
    let p = err_from_is_err_and c.from_residual-in_err-below-3.result c.from_residual-in_err-below-3.ensures.1 in
    rw (p.1, p.2) (Steps.brace_deep _ _ _ _ _ c.in_default.ensures.free c.in_default-after_mark.ensures.free c.in_ok-inner.ensures.found.1 l c.in_err-below-3.ensures.refused)

pub read_operators-returns-in_err-below-clause-halts : goal.read_operators-returns-in_err-below-clause-halts
read_operators-returns-in_err-below-clause-halts t c = let l : c.args.left ≤ height (tree_of c.loop-op.expr) = omega (arith, c.in_err-below.ensures.high, c.loop-op.invariant.tall) in
    let p = err_from_is_err_and c.from_residual.result c.from_residual.ensures.1 in
    rw (p.1, p.2) (Steps.going_deep _ _ _ _ _ _ _ _ c.loop-op.invariant.goes c.in-Some.ensures.found.1 l c.in_err-below.ensures.refused)

pub read_operators-returns-in_err-next-clause-halts : goal.read_operators-returns-in_err-next-clause-halts
read_operators-returns-in_err-next-clause-halts t c = let i = c.in_ok-below.ensures.less in
    let l : height (tree_of c.loop-op.expr) ≤ c.in_ok-below.below = omega (arith, c.in_ok-below.ensures.within, c.loop-op.invariant.tall) in
    let p = err_from_is_err_and c.from_residual-in_err-next.result c.from_residual-in_err-next.ensures.1 in
    rw (p.1, p.2) (Steps.going_halts _ _ _ _ _ _ _ _ _ c.loop-op.invariant.goes c.in-Some.ensures.found.1 l i c.in_err-next.ensures.halts)

pub read_operators-returns-in_err-expr-clause-halts : goal.read_operators-returns-in_err-expr-clause-halts
read_operators-returns-in_err-expr-clause-halts t c = let p = err_from_is_err_and c.from_residual-in_err-expr.result c.from_residual-in_err-expr.ensures.1 in
    rw p.1 (halts_for_memory _ _ p.2)

pub read_operators-loop-op-preserved : goal.read_operators-loop-op-preserved
read_operators-loop-op-preserved t c = let i = c.in_ok-below.ensures.less in
    let l : height (tree_of c.loop-op.expr) ≤ c.in_ok-below.below = omega (arith, c.in_ok-below.ensures.within, c.loop-op.invariant.tall) in
    record {
      goes = Steps.going_more _ _ _ _ _ _ _ _ _ _ _ _ c.loop-op.invariant.goes c.in-Some.ensures.found.1 c.in-Some.ensures.found.2 l i c.in_ok-next.ensures.read c.in_ok-expr.ensures.tree;
      tall = omega (arith, c.in_ok-expr.ensures.tall, c.max-height.ensures, c.in_ok-next.ensures.tall, c.loop-op.invariant.tall);
      high = omega (arith, c.max-height.ensures, c.in_ok-next.ensures.high, c.in_ok-below.ensures.within, c.in_ok-below.ensures.less, c.loop-op.invariant.high);
      shorter = omega (arith, c.in_ok-next.ensures.shorter, c.in-Some.ensures.shorter, c.loop-op.invariant.shorter);
    }

pub read_operators-returns-clause-read : goal.read_operators-returns-clause-read
read_operators-returns-clause-read t c = Steps.going_end _ _ _ _ _ c.loop-op.invariant.goes c.in_default.ensures.free

pub read_paren-returns-in_err-make_paren-clause-halts : goal.read_paren-returns-in_err-make_paren-clause-halts
read_paren-returns-in_err-make_paren-clause-halts t c = let p = err_from_is_err_and c.from_residual-in_err-make_paren.result c.from_residual-in_err-make_paren.ensures.1 in
    rw p.1 (halts_for_memory _ _ p.2)

pub read_prefixed-returns-in_err-make_unary-clause-halts : goal.read_prefixed-returns-in_err-make_unary-clause-halts
read_prefixed-returns-in_err-make_unary-clause-halts t c = let p = err_from_is_err_and c.from_residual-in_err-make_unary.result c.from_residual-in_err-make_unary.ensures.1 in
    rw p.1 (halts_for_memory _ _ p.2)

pub read_repeat-returns-in_err-rest-clause-halts : goal.read_repeat-returns-in_err-rest-clause-halts
read_repeat-returns-in_err-rest-clause-halts t c = let p = err_from_is_err_and c.from_residual-in_err-rest.result c.from_residual-in_err-rest.ensures.1 in
    rw (p.1, p.2) (Steps.repeat_open_still _ _ _ _ _ _ _ _ c.in_ok-parts.ensures.read c.in_ok-last.ensures.found.1 c.in_err-rest.ensures.free c.in_err-rest.ensures.refused)

pub read_repeat-returns-in_err-make_repeat-clause-halts : goal.read_repeat-returns-in_err-make_repeat-clause-halts
read_repeat-returns-in_err-make_repeat-clause-halts t c = let p = err_from_is_err_and c.from_residual-in_err-make_repeat.result c.from_residual-in_err-make_repeat.ensures.1 in
    rw p.1 (halts_for_memory _ _ p.2)

pub read_select-returns-in_err-right-clause-halts : goal.read_select-returns-in_err-right-clause-halts
read_select-returns-in_err-right-clause-halts t c = let p = err_from_is_err_and c.from_residual-in_err-right.result c.from_residual-in_err-right.ensures.1 in
    rw (p.1, p.2) (Steps.select_right_halts _ _ _ _ _ _ _ _ c.in_ok-index.ensures.read c.in_default.ensures.free c.in_ok-kind.ensures.found.1 c.in_err-right.ensures.halts)

pub read_select-returns-in_err-rest-clause-halts : goal.read_select-returns-in_err-rest-clause-halts
read_select-returns-in_err-rest-clause-halts t c = let p = err_from_is_err_and c.from_residual-in_err-rest.result c.from_residual-in_err-rest.ensures.1 in
    rw (p.1, p.2) (Steps.select_open _ _ _ _ _ _ _ _ _ _ c.in_ok-index.ensures.read c.in_default.ensures.free c.in_ok-kind.ensures.found.1 c.in_ok-right.ensures.read c.in_err-rest.ensures.free c.in_err-rest.ensures.refused)

pub read_unary-returns-in-Some-clause-read : goal.read_unary-returns-in-Some-clause-read
read_unary-returns-in-Some-clause-read t c = Steps.unary_number _ _ _ _ _ c.in-Some.ensures.found.1 c.in-Some.ensures.found.2

pub read_unary-returns-in-Some-after_ident-clause-read : goal.read_unary-returns-in-Some-after_ident-clause-read
read_unary-returns-in-Some-after_ident-clause-read t c = rw (Steps.unary_named _ _ _ _ _ c.in_default.ensures.free c.in-Some-after_ident.ensures.found.1) c.read_named.ensures.read

pub read_unary-returns-in-Some-after_ident-clause-halts : goal.read_unary-returns-in-Some-after_ident-clause-halts
read_unary-returns-in-Some-after_ident-clause-halts t c = rw (Steps.unary_named _ _ _ _ _ c.in_default.ensures.free c.in-Some-after_ident.ensures.found.1) c.read_named.ensures.halts

pub read_prefixed-returns-in_err-a-clause-halts : goal.read_prefixed-returns-in_err-a-clause-halts
read_prefixed-returns-in_err-a-clause-halts t c = let p = err_from_is_err_and c.from_residual.result c.from_residual.ensures.1 in
    rw (p.1, p.2) (Steps.prefixed_halts _ _ _ _ c.in_err-a.ensures.halts)
