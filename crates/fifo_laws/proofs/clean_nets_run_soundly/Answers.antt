-- A verdict without findings justifies the design.
use Rattle.std.proofs.Common.{sym, subst, List}
use Rattle.cdc_model.specs.declared.scheme.GrayReg.{GrayReg}
use Rattle.cdc_model.specs.Nets.{design_of, net_trees}
use Rattle.cdc_model.proofs.CleanVerdict.{justified}
use Rattle.cdc_model.proofs.Listing.{clean_listed}
use Rattle.cdc_model.proofs.NetDesign.{net_trees_are}
use Rattle.fifo_laws.specs.Laws.{IsSoundRun}
use Rattle.fifo_laws.proofs.SoundRuns.{sound_run}
use Rattle.fifo_laws.proofs.clean_nets_run_soundly.Goals as goal

pub returns : goal.returns
returns g c = λ net domains e fit w fits clean run is_run.
    let d = design_of net domains in
    let t = net_trees net w.grays in
    let none = clean_listed net d t w.syncs w.verdict e w.is_listed clean in
    let laws = net_trees_are net domains fit w.grays w.finds in
    let fits = subst (g.E.Extra.fits c.args.extra.now d t w.syncs) w.is_listed.grays fits in
    let ok = justified d t (g.E.Extra.is_extra c.args.extra.now) w.syncs w.loads w.verdict w.is_verdict none in
    subst (λ (grays : List GrayReg). IsSoundRun d w.syncs grays w.verdict.rings run) (sym w.is_listed.grays)
    (sound_run d t laws w.syncs w.verdict.grays w.verdict.rings w.loads (g.E.Extra.is_extra c.args.extra.now) ok (g.E.Extra.keeps c.args.extra.now)
    (g.met.E.Extra.justifies c.args.extra.now d t w.syncs w.verdict.grays w.verdict.rings fits laws ok.are_syncs ok.are_grays) run is_run)
