-- The verdict justifies the design.
use Rattle.cdc_model.proofs.Covers.{cover_facts}
use Rattle.cdc_model.proofs.Sound.{sound}
use Rattle.cdc_model.proofs.Together.{together}
use Rattle.cdc_model.proofs.CleanVerdict.{justified, one_family, covers_are}
use Rattle.cdc_model.proofs.laws.clean_is_sound.Goals as goal

pub returns : goal.returns
returns g c = record {
  sound = λ d t syncs loads v laws fits k clean.
      let ok = justified d t (g.E.Extra.is_extra c.args.extra.now) syncs loads v k clean in
      sound d t laws syncs v.grays v.rings loads (g.E.Extra.is_extra c.args.extra.now) ok (g.E.Extra.keeps c.args.extra.now)
      (g.met.E.Extra.justifies c.args.extra.now d t syncs v.grays v.rings fits laws ok.are_syncs ok.are_grays) v.covers
      (cover_facts v.grays syncs loads v.covers (covers_are d t (g.E.Extra.is_extra c.args.extra.now) syncs loads v k clean));
  together = λ d t syncs loads v laws fits k clean run h x reg group depth.
      let ok = justified d t (g.E.Extra.is_extra c.args.extra.now) syncs loads v k clean in
      together d t laws syncs v.grays v.rings loads (g.E.Extra.is_extra c.args.extra.now) ok (g.E.Extra.keeps c.args.extra.now)
      (g.met.E.Extra.justifies c.args.extra.now d t syncs v.grays v.rings fits laws ok.are_syncs ok.are_grays)
      (one_family d t (g.E.Extra.is_extra c.args.extra.now) syncs loads v k clean) run h x reg group depth;
}
