use Rattle.std.proofs.Common.{◌≤◌, map, drop}
use Rattle.flat_meaning.specs.Design.{width_in}
use Rattle.flat_form.specs.declared.flat.FExpr.{size-FExpr}
use Rattle.flat_form.specs.View.{expr_of, exprs_of}
use Rattle.flat_form.specs.Masks.{bits_in}
use Rattle.flat_meaning.specs.Law.{expr_reads}
use Rattle.flat_form.specs.Uses.{exprs_read}
use Rattle.flat_form.proofs.MaskSets.{Left}
use Rattle.flat_form.proofs.uses.+add_reads.Given as goal

abbrev pub invariant-add_reads-loop-inner : goal.invariant-add_reads-loop-inner
invariant-add_reads-loop-inner l = record {
  inside : size-FExpr l.inner ≤ size-FExpr l.expr;
  left : Left (bits_in l.initial.reads) l.reads (expr_reads (width_in l.signals) (expr_of l.inner)) (expr_reads (width_in l.signals) (expr_of l.expr));
}

abbrev pub invariant-add_reads_of-loop-expr : goal.invariant-add_reads_of-loop-expr
invariant-add_reads_of-loop-expr l = Left (bits_in l.initial.reads) l.reads (exprs_read (width_in l.signals) (exprs_of (map expr_of (drop l.expr-index l.exprs)))) (exprs_read (width_in l.signals) (exprs_of (map expr_of l.exprs)))
