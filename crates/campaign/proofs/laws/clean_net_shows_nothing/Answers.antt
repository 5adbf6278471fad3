-- What is found isn't calm.
use Rattle.campaign.proofs.Calm.{nothing-shown}
use Rattle.cdc_model.specs.Nets.{design_of, net_trees}
use Rattle.cdc_model.proofs.CleanVerdict.{justified}
use Rattle.cdc_model.proofs.Listing.{clean_listed}
use Rattle.cdc_model.proofs.NetDesign.{net_trees_are}
use Rattle.std.proofs.Common.{subst}
use Rattle.campaign.proofs.laws.clean_net_shows_nothing.Goals as goal

pub returns : goal.returns
returns g c = λ net domains e steps seed found can answer w fits clean.
    let d = design_of net domains in
    let t = net_trees net w.grays in
    let none = clean_listed net d t w.syncs w.verdict e w.is_listed clean in
    let laws = net_trees_are net domains can.opens.fit w.grays w.finds in
    let fits = subst (g.E.Extra.fits c.args.extra.now d t w.syncs) w.is_listed.grays fits in
    let ok = justified d t (g.E.Extra.is_extra c.args.extra.now) w.syncs w.loads w.verdict w.is_verdict none in
    nothing-shown net domains (g.E.Extra.is_extra c.args.extra.now) e can w clean (g.E.Extra.keeps c.args.extra.now)
    (g.met.E.Extra.justifies c.args.extra.now d t w.syncs w.verdict.grays w.verdict.rings fits laws ok.are_syncs ok.are_grays) steps seed found answer
