use Rattle.std.proofs.Common.{sym, subst, ◌∙◌}
use Rattle.flat_names.specs.Pieces.{IsPiece, unary_piece}
use Rattle.flat_names.proofs.Counted.{unary-number}
use Rattle.flat_names.proofs.resolved.counted_unary.Goals as goal

pub returns-then-width-ne1 : goal.returns-then-width-ne1
returns-then-width-ne1 c = λ l p k is fits size width whole.
    subst (IsPiece (unary_piece l c.args.op p)) (sym c.whole_number.ensures) (unary-number l c.args.op p k c.args.whole fits size (λ e. c.if-width-ne1.true (width ∙ e)) whole)
