use Rattle.std.proofs.Common.{◌∙◌, List, length, map, ap, subst}
use Rattle.flat_form.specs.declared.flat.FlatAssign.{FlatAssign}
use Rattle.reset_nets.specs.Finding.{pair_of, Tells}
use Rattle.reset_nets.specs.Shown.{level_in_signal}
use Rattle.reset_nets.proofs.Tables.{wires_shown}
use Rattle.reset_nets.proofs.nets.Wires.new.Goals as goal

pub returns-clause-shows : goal.returns-clause-shows
returns-clause-shows c = λ d shown.
    let resets = c.args.resets.now in
    let signals = c.as_slice-signals.ensures.value in
    let assigns = c.as_slice-assigns.ensures.value in
    wires_shown resets c.args.design.now d shown _ signals assigns (c.in_ok-drives_of.ensures.count ∙ ap length signals)
    (λ s x at. subst (λ (xs : List FlatAssign). Tells (map pair_of xs) s x) assigns (c.in_ok-drives_of.ensures.tells s x at))
    (c.in_ok-declared_levels.ensures resets c.in_ok-pins.ensures ∙ ap (map (level_in_signal resets)) signals)
