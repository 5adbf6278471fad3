use Rattle.std.proofs.Common.{sym, ap, ◌∙◌}
use Rattle.std.specs.Option.{option_map_or}
use Rattle.flat_meaning.specs.Flat.{unary_size}
use Rattle.flat_form.specs.View.{unary_of}
use Rattle.flat_names.proofs.resolved.own_unary.Goals as goal

pub returns-in-Some : goal.returns-in-Some
returns-in-Some c = c.unary_size.ensures ∙ ap (λ o. option_map_or (λ f. unary_size (unary_of f) c.args.size) o c.args.size) (sym c.in-Some.is ∙ c.plain_unary.ensures)

pub returns-in-None : goal.returns-in-None
returns-in-None c = ap (λ o. option_map_or (λ f. unary_size (unary_of f) c.args.size) o c.args.size) (sym c.in-None.is ∙ c.plain_unary.ensures)
