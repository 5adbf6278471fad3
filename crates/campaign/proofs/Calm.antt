-- Where a verdict has no finding, no capture shows.
use Rattle.std.proofs.Common.{◌≡◌, ◌∙◌, ℕ, Bool, false, List, [], ◌∷◌, Option, Some, None, refl, sym, subst}
use Rattle.cdc_base.specs.declared.bit.Bit.{Bit}
use Rattle.cell_graph.specs.declared.net.Net.{Net}
use Rattle.domains.specs.declared.Domains.{Domains}
use Rattle.cdc_model.specs.declared.verdict.Verdict.{Verdict as VerdictEntry}
use Rattle.cdc_model.specs.Design.{Design}
use Rattle.cdc_model.specs.Facts.{AreJustifiedBy}
use Rattle.cdc_model.specs.Listed.{IsVerdictOf}
use Rattle.cdc_model.specs.Nets.{design_of, net_trees}
use Rattle.cdc_model.specs.Replay.{has_bit}
use Rattle.cdc_model.specs.Runs.{State, now, AreLoose, IsLoose}
use Rattle.cdc_model.specs.Schemes.{IsSync, Justified, Sync, Trees, AreTrees, is_settling}
use Rattle.cdc_model.specs.Syncs.{syncs_of}
use Rattle.cdc_model.specs.Verdict.{sync_key}
use Rattle.cdc_model.proofs.CleanVerdict.{justified}
use Rattle.cdc_model.proofs.Listing.{clean_listed}
use Rattle.cdc_model.proofs.NetDesign.{net_trees_are}
use Rattle.cdc_model.proofs.Ordered.{one_list}
use Rattle.cdc_model.proofs.Replay.{each_bit}
use Rattle.cdc_model.proofs.Synced.{syncs_are_all}
use Rattle.cdc_model.proofs.Whole.{calm_run}
use Rattle.campaign.specs.declared.found.Found.{Found}
use Rattle.campaign.specs.Campaign.{IsAnswer}
use Rattle.campaign.specs.Run.{CanRun}
use Rattle.campaign.specs.Shows.{ShowsCapture}
use Rattle.campaign.proofs.Showing.{found-shows}

module _ (net : Net) (domains : Domains) (is_extra : Bit → Bit → Bool) (e : VerdictEntry) (can : CanRun net domains) (w : IsVerdictOf net domains is_extra e) (clean : e.findings ≡ [])
    (keeps : State → Type 0) (extra : AreJustifiedBy (design_of net domains) w.syncs w.verdict.grays w.verdict.rings is_extra keeps) where
  abbrev d : Design
  d = design_of net domains

  abbrev t : Trees
  t = net_trees net w.grays

  laws : AreTrees d t
  laws = net_trees_are net domains can.opens.fit w.grays w.finds

  ok : Justified d t w.syncs w.verdict.grays w.verdict.rings w.loads is_extra
  ok = justified d t is_extra w.syncs w.loads w.verdict w.is_verdict (clean_listed net d t w.syncs w.verdict e w.is_listed clean)

  same-syncs : syncs_of net domains ≡ w.syncs
  same-syncs = one_list sync_key (IsSync d t) (syncs_of net domains) w.syncs (syncs_are_all net domains w.grays can.is can.opens.fit) w.is_verdict.all_syncs

  never : (f : Found) → ShowsCapture net domains f → ⊥
  never f s =
      let plain : is_settling d w.syncs f.to ≡ false = subst (λ (ss : List Sync). is_settling d ss f.to ≡ false) same-syncs s.plain in
      let loose : AreLoose d (now s.past) s.new.values f.to (has_bit (f.from ∷ []))
      = λ b h. each_bit (λ (b : Bit). IsLoose d (now s.past) s.new.values f.to b) (f.from ∷ []) b (s.loose, tt) h in
      s.other (s.taken
      ∙ calm_run d t laws w.syncs w.verdict.grays w.verdict.rings w.loads is_extra ok keeps extra s.past s.edges s.new s.run f.to s.register s.ticking plain tt (has_bit (f.from ∷ [])) loose)

  pub nothing-shown : (steps seed : ℕ) (found : Option Found) → IsAnswer net domains steps seed found → found ≡ None
  nothing-shown steps seed None answer = refl
  nothing-shown steps seed (Some f) answer = absurd (never f (found-shows net domains answer.named steps seed f can answer.are_named (sym answer.first)))
