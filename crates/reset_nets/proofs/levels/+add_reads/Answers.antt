use Rattle.std.proofs.Common.{[], ◌∷◌, ◌++◌, refl, ap, ◌∙◌}
use Rattle.std.proofs.lemmas.List.{drop_all}
use Rattle.driver_loops.specs.Links.{extended}
use Rattle.flat_form.specs.View.{expr_of}
use Rattle.flat_form.proofs.Folds.{expr_of-Number, expr_of-At, expr_of-Binary, expr_of-Choose}
use Rattle.reset_nets.specs.Nets.{reads_of}
use Rattle.reset_nets.proofs.Ends.{on_ok, no_ends, more_ends, ends_step, ends_done}
use Rattle.reset_nets.proofs.levels.+add_reads.Goals as goal

pub add_reads-returns-in-Number : goal.add_reads-returns-in-Number
add_reads-returns-in-Number t c = no_ends c.args.links.now _ (ap reads_of (ap expr_of c.in-Number.is ∙ expr_of-Number c.in-Number.value c.in-Number.width))

pub add_reads-returns-in_ok-add-in-At : goal.add_reads-returns-in_ok-add-in-At
add_reads-returns-in_ok-add-in-At t c =
    let i = c.in-At in let mid = c.add-in-At.new.self in
    on_ok c.add_reads.result _ _ (λ e.
    more_ends c.args.links.now mid c.add_reads.new.links (i.sig ∷ []) (reads_of (expr_of i.index.value)) (reads_of (expr_of c.args.expr.now)) c.in_ok-add-in-At.ensures
    (e ∙ ap (λ z. extended mid (reads_of (expr_of z))) c.deref.ensures) (ap reads_of (ap expr_of i.is ∙ expr_of-At i.sig i.index i.width))) c.add_reads.ensures

pub add_reads-returns-in_ok-add_reads-in-Binary : goal.add_reads-returns-in_ok-add_reads-in-Binary
add_reads-returns-in_ok-add_reads-in-Binary t c =
    let i = c.in-Binary in let old = c.args.links.now in let mid = c.add_reads-in-Binary.new.links in
    on_ok c.add_reads-in-Binary-2.result _ _ (λ e.
    more_ends old mid c.add_reads-in-Binary-2.new.links (reads_of (expr_of i.a.value)) (reads_of (expr_of i.b.value)) (reads_of (expr_of c.args.expr.now))
    (c.in_ok-add_reads-in-Binary.ensures ∙ ap (λ z. extended old (reads_of (expr_of z))) c.deref-in-Binary.ensures)
    (e ∙ ap (λ z. extended mid (reads_of (expr_of z))) c.deref-in-Binary-2.ensures) (ap reads_of (ap expr_of i.is ∙ expr_of-Binary i.op i.a i.b i.width))) c.add_reads-in-Binary-2.ensures

pub add_reads-returns-in_ok-add_reads-in-Choose-2 : goal.add_reads-returns-in_ok-add_reads-in-Choose-2
add_reads-returns-in_ok-add_reads-in-Choose-2 t c =
    let i = c.in-Choose in let old = c.args.links.now in let mid = c.add_reads-in-Choose.new.links in let next = c.add_reads-in-Choose-2.new.links in
    let first = reads_of (expr_of i.cond.value) in let second = reads_of (expr_of i.yes.value) in let third = reads_of (expr_of i.other.value) in
    on_ok c.add_reads-in-Choose-3.result _ _ (λ e.
    more_ends old mid c.add_reads-in-Choose-3.new.links first (second ++ third) (reads_of (expr_of c.args.expr.now))
    (c.in_ok-add_reads-in-Choose.ensures ∙ ap (λ z. extended old (reads_of (expr_of z))) c.deref-in-Choose.ensures)
    (more_ends mid next c.add_reads-in-Choose-3.new.links second third (second ++ third)
    (c.in_ok-add_reads-in-Choose-2.ensures ∙ ap (λ z. extended mid (reads_of (expr_of z))) c.deref-in-Choose-2.ensures)
    (e ∙ ap (λ z. extended next (reads_of (expr_of z))) c.deref-in-Choose-3.ensures) refl)
    (ap reads_of (ap expr_of i.is ∙ expr_of-Choose i.cond i.yes i.other i.width))) c.add_reads-in-Choose-3.ensures

pub add_all_reads-loop-expr-preserved : goal.add_all_reads-loop-expr-preserved
add_all_reads-loop-expr-preserved t c =
    ends_step c.args.exprs.now c.loop-expr.expr-index c.expr-item.result c.loop-expr.links c.add_reads.new.links _ c.loop-expr-test.true c.expr-item.is c.in_ok-add_reads.ensures c.loop-expr.invariant

pub add_all_reads-returns : goal.add_all_reads-returns
add_all_reads-returns t c =
    ends_done c.args.exprs.now _ c.loop-expr.links _ (drop_all c.loop-expr.expr-index c.args.exprs.now c.loop-expr-test.false) c.loop-expr.invariant
