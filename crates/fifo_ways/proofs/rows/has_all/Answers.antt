-- The lowest bits are all set where the mask of ones takes none away.
use Rattle.std.proofs.Common.{◌∙◌, ap}
use Rattle.cell_graph.specs.Tree.{bit_at, all_below}
use Rattle.fifo_ways.proofs.RowBits.{all-ones}
use Rattle.fifo_ways.proofs.rows.has_all.Goals as goal

pub returns : goal.returns
returns c =
    λ h. all-ones c.bits_of.result c.args.count c.mask-ones.result h c.mask-ones.ensures
    ∙ ap (λ v. all_below (bit_at v) c.args.count) c.bits_of.ensures
