use Rattle.std.proofs.Common.{◌∙◌}
use Rattle.verilog_reading.specs.ExprTree.{tree_of}
use Rattle.flat_unfolding.specs.Expressions.{read}
use Rattle.flat_process.proofs.ResetSignals.{bits-of, no-bits}
use Rattle.flat_process.proofs.reset.is_one_bit.Goals as goal
use Rattle.flat_process.proofs.reset.is_one_bit.Goals.{then-expr, else-expr}

pub returns : goal.returns
returns c = λ l shows fit formed.
    let r = c.in_ok-expr.expr in
    let t = read l (tree_of c.args.expr.now) in
    let h = (c.in_ok-expr.ensures l shows fit formed).0 in
    elim c.if-expr.branch [
      | then-expr w ↦ w.result-is ∙ bits-of t r h w.width.result w.if-expr.true w.width.ensures
      | else-expr w ↦ w.result-is ∙ w.if-expr.false ∙ no-bits t r h w.if-expr.false
    ]
