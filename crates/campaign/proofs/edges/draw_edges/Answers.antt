use Rattle.campaign.proofs.Drawing.{drawn-edges}
use Rattle.campaign.proofs.edges.draw_edges.Goals as goal

pub returns-clause-edges : goal.returns-clause-edges
returns-clause-edges c =
    drawn-edges c.args.domains.now c.args.number c.draw-word.result c.len-clocks.result c.args.rng.now c.in_ok-marked_clocks.field-0 c.or_first.result
    c.if-number-eq0.false c.draw-word.ensures.word c.len-clocks.ensures c.in_ok-marked_clocks.ensures c.or_first.ensures
