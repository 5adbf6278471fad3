use Rattle.std.proofs.Common.{ap, ◌∙◌}
use Rattle.std.specs.List.{list_all}
use Rattle.flat_unfolding.specs.Widths.{keeps_sizes}
use Rattle.flat_process.proofs.Wires.{gate-keeps, complement-keeps}
use Rattle.flat_process.proofs.assign.folded.Goals as goal

pub returns-then-is_inverted-clause-sizes : goal.returns-then-is_inverted-clause-sizes
returns-then-is_inverted-clause-sizes c = λ h. complement-keeps c.gate_operator.result c.from_vec.result c.in_ok-boxed.field-0 c.in_ok-boxed.ensures (ap (list_all keeps_sizes) c.from_vec.ensures ∙ h)

pub returns-clause-sizes : goal.returns-clause-sizes
returns-clause-sizes c = λ h. gate-keeps c.gate_operator.result c.from_vec.result (ap (list_all keeps_sizes) c.from_vec.ensures ∙ h)
