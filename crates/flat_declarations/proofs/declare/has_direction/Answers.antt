use Rattle.std.proofs.Common.{sym, ◌∙◌, rules}
use Rattle.flat_declarations.proofs.Shown.{direction-is}
use Rattle.flat_declarations.proofs.declare.has_direction.Goals as goal

pub returns-in-Some-Signal : goal.returns-in-Some-Signal
returns-in-Some-Signal c = λ l shows. c.is_directed.ensures ∙ sym (direction-is c.args.look.now l shows c.args.name.now c.in-Some-Signal.sig (search rules))
