use Rattle.std.proofs.Common.{◌^◌, ◌/◌, ap, ◌∙◌, pow_pos}
use Rattle.std.specs.Prelude.{not, ◌==◌}
use Rattle.flat_names.proofs.Selected.{quotient-some, quotient-none, lt-false}
use Rattle.flat_names.proofs.select.has_all.Goals as goal

pub returns-then-index_width-lt64 : goal.returns-then-index_width-lt64
returns-then-index_width-lt64 c = ap (λ q. not (q == 0)) (c.shifted_right.ensures ∙ ap (λ k. c.args.indices / 2 ^ k) c.from.ensures) ∙ quotient-some c.args.indices (2 ^ c.args.index_width) (pow_pos c.args.index_width)

pub returns-else-index_width-lt64 : goal.returns-else-index_width-lt64
returns-else-index_width-lt64 c = lt-false c.args.index_width 64 c.if-index_width-lt64.false ∙ quotient-none c.args.indices c.args.index_width c.ranges.indices.fits c.if-index_width-lt64.false
