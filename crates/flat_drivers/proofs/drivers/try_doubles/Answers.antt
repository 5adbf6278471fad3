use Rattle.std.proofs.Common.{◌||◌, ap, ◌∙◌}
use Rattle.flat_form.specs.Masks.{bits_in}
use Rattle.flat_drivers.proofs.drivers.try_doubles.Goals as goal

pub returns-clause-exact : goal.returns-clause-exact
returns-clause-exact c = λ double small few h.
    c.refuse_doubles.ensures.exact double small few
    (λ s i l m. c.in_ok-add_all.ensures.added s i m ∙ ap (λ b. b || bits_in c.args.drivers.now.twice s i) (c.in_ok-doubles.ensures s i l m) ∙ h s i l m)
