use Rattle.std.proofs.Common.{not, refl, ap, ◌∙◌}
use Rattle.flat_names.proofs.Counted.{settled-noted}
use Rattle.flat_names.proofs.resolved.settled.Goals as goal

pub returns : goal.returns
returns c = λ p is fits. (refl, c.in_ok-note.ensures ∙ settled-noted c.args.faults.now p c.args.resolved is fits (c.is_none.ensures ∙ ap not c.if-is_none.false) c.if-resolved.false)
