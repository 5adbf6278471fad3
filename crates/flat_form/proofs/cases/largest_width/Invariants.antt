use Rattle.std.proofs.Common.{◌≡◌, max, true, drop}
use Rattle.std.specs.List.{list_all}
use Rattle.flat_meaning.specs.Flat.{largest}
use Rattle.flat_form.specs.Sizes.{is_sized}
use Rattle.flat_form.proofs.Constants.{these}
use Rattle.flat_form.proofs.cases.largest_width.Given as goal

abbrev pub invariant-loop-expr : goal.invariant-loop-expr
invariant-loop-expr l = list_all is_sized l.exprs ≡ true → (list_all is_sized (drop l.expr-index l.exprs) ≡ true) × (largest (these l.exprs) ≡ max l.width (largest (these (drop l.expr-index l.exprs))))
