-- Without clocks there are no steps.
use Rattle.std.proofs.Common.{◌∙◌, sym}
use Rattle.campaign.specs.Run.{domains_of, net_of}
use Rattle.campaign.proofs.RunLists.{no-clocks, some-clocks}
use Rattle.campaign.proofs.runs.search_by.Goals as goal

pub returns-then-len-eq0 : goal.returns-then-len-eq0
returns-then-len-eq0 c = λ named planned. no-clocks (net_of c.args.plan.now) (domains_of c.args.plan.now) named c.args.steps c.args.seed (sym c.len.ensures ∙ c.if-len-eq0.true)

pub returns : goal.returns
returns c = λ named planned.
    c.in_ok-found.ensures named planned
    ∙ some-clocks (net_of c.args.plan.now) (domains_of c.args.plan.now) named c.args.steps c.args.seed (λ e. c.if-len-eq0.false (c.len.ensures ∙ e))
