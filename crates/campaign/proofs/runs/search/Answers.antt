-- The plan is that of the net, and the search by it is the campaign.
use Rattle.campaign.proofs.RunLists.{answer-of}
use Rattle.campaign.proofs.runs.search.Goals as goal

pub returns : goal.returns
returns c = record {
  first = λ can same. answer-of c.args.net.now c.args.domains.now c.in_ok-plan.plan c.args.steps c.args.seed c.in_ok-found.found can (c.in_ok-plan.ensures can same) c.in_ok-found.ensures;
}
