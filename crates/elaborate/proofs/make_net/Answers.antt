use Rattle.std.proofs.Common.{sym, subst}
use Rattle.elaborate.specs.Lowered.{CanLower}
use Rattle.elaborate.proofs.NetTrees.{all-met}
use Rattle.elaborate.proofs.make_net.Goals as goal

pub returns-clause-unfolds : goal.returns-clause-unfolds
returns-clause-unfolds c = λ f sel can sorted needed.
    let s = c.args.sketch.now in let made = c.in_ok-lowering.lowering in
    c.in_ok-net.ensures.trees f sel (subst (CanLower f sel s.drafts s) (sym c.in_ok-lowering.ensures.signals) can)
    (all-met f sel s.drafts s can.sketch c.args.order.now needed made.graph made.trees.items (c.in_ok-lowering.ensures.known f sel can sorted))
