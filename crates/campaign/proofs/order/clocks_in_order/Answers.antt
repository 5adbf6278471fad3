use Rattle.std.proofs.Common.{◌∙◌}
use Rattle.campaign.proofs.Ordered.{marked-clocks}
use Rattle.campaign.proofs.order.clocks_in_order.Goals as goal

pub returns : goal.returns
returns c = marked-clocks c.args.clocks c.args.edges.now c.as_slice.result.now c.marked.result (c.as_slice.ensures.value ∙ c.in_ok-ticking.ensures) c.marked.ensures
