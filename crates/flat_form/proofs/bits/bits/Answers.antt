use Rattle.std.proofs.Common.{◌*◌, ◌%◌, ◌^◌, ap, ◌∙◌}
use Rattle.cell_graph.specs.Tree.{bit_at}
use Rattle.flat_form.proofs.MaskBits.{moved-set}
use Rattle.flat_form.proofs.bits.bits.Goals as goal

pub returns : goal.returns
returns c = λ i. ap (λ n. bit_at n i) (c.shifted_left.ensures ∙ ap (λ k. c.low_bits.result * 2 ^ k % 2 ^ 64) c.from.ensures) ∙ moved-set c.low_bits.result c.args.at c.args.width i c.low_bits.ensures.set
