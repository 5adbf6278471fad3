use Rattle.std.proofs.Common.{◌≡◌, ◌≤◌, ◌++◌, map, drop}
use Rattle.flat_form.specs.declared.flat.FExpr.{size-FExpr}
use Rattle.flat_form.specs.View.{expr_of}
use Rattle.flat_form.specs.Sizes.{kept_of}
use Rattle.flat_form.specs.Copies.{wrapped, kept_wrapped}
use Rattle.flat_form.proofs.copy.+copy.Given as goal

abbrev pub invariant-copy-loop-inner : goal.invariant-copy-loop-inner
invariant-copy-loop-inner l = record {
  inside : size-FExpr l.inner ≤ size-FExpr l.expr;
  same : wrapped l.around.items (expr_of l.inner) ≡ expr_of l.expr;
  kept : kept_wrapped l.around.items (kept_of l.inner) ≡ kept_of l.expr;
}

abbrev pub invariant-copy_all-loop-expr : goal.invariant-copy_all-loop-expr
invariant-copy_all-loop-expr l = record {
  same : map expr_of l.copies.items ++ map expr_of (drop l.expr-index l.exprs) ≡ map expr_of l.exprs;
  kept : map kept_of l.copies.items ++ map kept_of (drop l.expr-index l.exprs) ≡ map kept_of l.exprs;
}
