use Rattle.std.proofs.Common.{◌≡◌, length}
use Rattle.flat_form.specs.View.{expr_of}
use Rattle.flat_form.specs.Sizes.{kept_of}
use Rattle.flat_form.specs.Copies.{wrapped, kept_wrapped}
use Rattle.flat_form.proofs.copy.chosen.Given as goal

abbrev pub invariant-loop-cond : goal.invariant-loop-cond
invariant-loop-cond l = record {
  same : wrapped l.around.items (expr_of l.whole) ≡ wrapped l.initial.around.items (expr_of l.initial.whole);
  kept : kept_wrapped l.around.items (kept_of l.whole) ≡ kept_wrapped l.initial.around.items (kept_of l.initial.whole);
}

abbrev pub decreases-loop-cond : goal.decreases-loop-cond
decreases-loop-cond l = length l.around.items
