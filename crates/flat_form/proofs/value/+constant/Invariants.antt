use Rattle.std.proofs.Common.{◌≡◌, map, drop}
use Rattle.flat_meaning.specs.Full.{are_const}
use Rattle.flat_form.specs.View.{expr_of, exprs_of}
use Rattle.flat_form.proofs.value.+constant.Given as goal

abbrev pub invariant-are_constant-loop-expr : goal.invariant-are_constant-loop-expr
invariant-are_constant-loop-expr l = are_const (exprs_of (map expr_of l.exprs)) ≡ are_const (exprs_of (map expr_of (drop l.expr-index l.exprs)))
