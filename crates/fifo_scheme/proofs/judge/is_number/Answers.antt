use Rattle.std.proofs.Common.{◌∙◌, sym, ap, Some, eqb-true}
use Rattle.std.specs.Option.{option_copied}
use Rattle.fifo_scheme.proofs.judge.is_number.Goals as goal

pub returns-in-Some : goal.returns-in-Some
returns-in-Some c = λ e. sym c.get.ensures.value ∙ ap option_copied c.in-Some.is ∙ ap Some (eqb-true c.in-Some.number.now c.args.word e)
