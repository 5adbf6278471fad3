-- The induction over runs, with what the trait's laws say.
use Rattle.cdc_model.proofs.Whole.{carried_run, all_facts, all_settled}
use Rattle.cdc_model.proofs.Covers.{cover_facts}
use Rattle.cdc_model.proofs.Sound.{sound}
use Rattle.cdc_model.proofs.Taken.{chain_run}
use Rattle.cdc_model.proofs.Together.{together}
use Rattle.cdc_model.proofs.laws.justified_is_sound.Goals as goal

pub returns : goal.returns
returns g c = record {
  sound = λ d t syncs grays rings loads covers fits laws ok fit.
      sound d t laws syncs grays rings loads (g.E.Extra.is_extra c.args.extra.now) ok (g.E.Extra.keeps c.args.extra.now)
      (g.met.E.Extra.justifies c.args.extra.now d t syncs grays rings fits laws ok.are_syncs ok.are_grays) covers (cover_facts grays syncs loads covers fit);
  facts = λ d t syncs grays rings loads fits laws ok run h.
      let k = (carried_run d t laws syncs grays rings loads (g.E.Extra.is_extra c.args.extra.now) ok (g.E.Extra.keeps c.args.extra.now)
      (g.met.E.Extra.justifies c.args.extra.now d t syncs grays rings fits laws ok.are_syncs ok.are_grays) run h).0 in (
        all_facts d t laws syncs grays rings loads (g.E.Extra.is_extra c.args.extra.now) ok run k,
        chain_run d t laws syncs ok.are_syncs run h (all_settled d t laws syncs grays rings loads (g.E.Extra.is_extra c.args.extra.now) ok run k),
      );
  together = λ d t syncs grays rings loads fits laws ok family run h x reg group depth.
      together d t laws syncs grays rings loads (g.E.Extra.is_extra c.args.extra.now) ok (g.E.Extra.keeps c.args.extra.now)
      (g.met.E.Extra.justifies c.args.extra.now d t syncs grays rings fits laws ok.are_syncs ok.are_grays) family run h x reg group depth;
}
