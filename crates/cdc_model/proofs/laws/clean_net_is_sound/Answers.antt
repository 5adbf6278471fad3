-- The law of clean verdicts at the design of the net, with the lists of the code.
use Rattle.std.proofs.Common.{sym, subst, List, map}
use Rattle.cdc_base.specs.declared.bit.Bit.{Bit}
use Rattle.cdc_model.specs.declared.scheme.Cover.{Cover}
use Rattle.cdc_model.specs.declared.scheme.Ring.{Ring as RingEntry}
use Rattle.cdc_model.specs.Nets.{design_of, net_trees}
use Rattle.cdc_model.specs.Sound.{Sound}
use Rattle.cdc_model.proofs.Covers.{cover_facts}
use Rattle.cdc_model.proofs.Sound.{sound}
use Rattle.cdc_model.proofs.Together.{together}
use Rattle.cdc_model.proofs.CleanVerdict.{justified, one_family, covers_are}
use Rattle.cdc_model.proofs.Listing.{clean_listed, listed_bits}
use Rattle.cdc_model.proofs.NetDesign.{net_trees_are}
use Rattle.cdc_model.proofs.laws.clean_net_is_sound.Goals as goal

pub returns : goal.returns
returns g c = record {
  sound = λ net domains e fit w fits clean.
      let d = design_of net domains in
      let t = net_trees net w.grays in
      let none = clean_listed net d t w.syncs w.verdict e w.is_listed clean in
      let laws = net_trees_are net domains fit w.grays w.finds in
      let fits = subst (g.E.Extra.fits c.args.extra.now d t w.syncs) w.is_listed.grays fits in
      let ok = justified d t (g.E.Extra.is_extra c.args.extra.now) w.syncs w.loads w.verdict w.is_verdict none in
      subst (λ (covers : List Cover). Sound d covers (map (λ (r : RingEntry). r.bits) e.rings) (g.E.Extra.is_extra c.args.extra.now)) (sym w.is_listed.covers)
      (subst (λ (rings : List (List Bit)). Sound d w.verdict.covers rings (g.E.Extra.is_extra c.args.extra.now)) (sym (listed_bits net d t w.syncs w.verdict e w.is_listed))
      (sound d t laws w.syncs w.verdict.grays w.verdict.rings w.loads (g.E.Extra.is_extra c.args.extra.now) ok (g.E.Extra.keeps c.args.extra.now)
      (g.met.E.Extra.justifies c.args.extra.now d t w.syncs w.verdict.grays w.verdict.rings fits laws ok.are_syncs ok.are_grays) w.verdict.covers
      (cover_facts w.verdict.grays w.syncs w.loads w.verdict.covers (covers_are d t (g.E.Extra.is_extra c.args.extra.now) w.syncs w.loads w.verdict w.is_verdict none))));
  together = λ net domains e fit w fits clean run h x reg group depth.
      let d = design_of net domains in
      let t = net_trees net w.grays in
      let none = clean_listed net d t w.syncs w.verdict e w.is_listed clean in
      let laws = net_trees_are net domains fit w.grays w.finds in
      let fits = subst (g.E.Extra.fits c.args.extra.now d t w.syncs) w.is_listed.grays fits in
      let ok = justified d t (g.E.Extra.is_extra c.args.extra.now) w.syncs w.loads w.verdict w.is_verdict none in
      together d t laws w.syncs w.verdict.grays w.verdict.rings w.loads (g.E.Extra.is_extra c.args.extra.now) ok (g.E.Extra.keeps c.args.extra.now)
      (g.met.E.Extra.justifies c.args.extra.now d t w.syncs w.verdict.grays w.verdict.rings fits laws ok.are_syncs ok.are_grays)
      (one_family d t (g.E.Extra.is_extra c.args.extra.now) w.syncs w.loads w.verdict w.is_verdict none) run h x reg group depth;
}
