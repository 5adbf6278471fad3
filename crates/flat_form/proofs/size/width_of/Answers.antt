use Rattle.std.proofs.Common.{◌≤◌, subst, sym, ◌∙◌}
use Rattle.flat_form.proofs.Sized.{sized_width, sized_range}
use Rattle.flat_form.proofs.size.width_of.Goals as goal

pub returns-clause-size : goal.returns-clause-size
returns-clause-size c = λ h. c.kept_width.ensures ∙ sized_width c.args.expr.now h

pub returns-clause-some : goal.returns-clause-some
returns-clause-some c = λ h. subst (λ n. 1 ≤ n) (sym c.kept_width.ensures) (sized_range c.args.expr.now h).some

pub returns-clause-most : goal.returns-clause-most
returns-clause-most c = λ h. subst (λ n. n ≤ 64) (sym c.kept_width.ensures) (sized_range c.args.expr.now h).most
