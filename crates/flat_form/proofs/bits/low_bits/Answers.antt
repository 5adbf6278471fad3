use Rattle.std.proofs.Common.{ap, ◌∙◌}
use Rattle.cell_graph.specs.Tree.{bit_at}
use Rattle.flat_form.proofs.MaskBits.{ones-set}
use Rattle.flat_form.proofs.bits.low_bits.Goals as goal

pub returns-clause-set : goal.returns-clause-set
returns-clause-set c = λ i. ap (λ n. bit_at n i) c.mask.ensures ∙ ones-set c.args.width i
