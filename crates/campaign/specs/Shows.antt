-- What a found record shows.
use Rattle.std.specs.Prelude.{◌≡◌, ◌≢◌, ℕ, Bool, true, false, Option, Some, None, List, [], ◌∷◌}
use Rattle.cdc_base.specs.declared.bit.Bit.{Bit}
use Rattle.cell_graph.specs.declared.net.Net.{Net}
use Rattle.domains.specs.declared.Domains.{Domains}
use Rattle.cdc_model.specs.declared.verdict.Verdict.{Verdict as VerdictEntry}
use Rattle.cdc_model.specs.Design.{flipped}
use Rattle.cdc_model.specs.Laws.{Fits}
use Rattle.cdc_model.specs.Listed.{IsVerdictOf}
use Rattle.cdc_model.specs.Nets.{design_of, is_register_bit, net_trees}
use Rattle.cdc_model.specs.Replay.{has_bit, replayed, Ran}
use Rattle.cdc_model.specs.Runs.{State, Trace, Then, now, ticks, IsLoose, IsRun}
use Rattle.campaign.specs.declared.found.Found.{Found}
use Rattle.campaign.specs.Campaign.{campaign, IsAnswer}
use Rattle.campaign.specs.Plan.{AreNamed, settles}
use Rattle.campaign.specs.Run.{CanRun}

-- The record fixes a run, in whose last step a register bit, no settling flop, takes another value than its next one, by a bit that is loose for it.
pub record ShowsCapture (net : Net) (domains : Domains) (found : Found) : Type 0 where
  pub past : Trace
  pub edges : ℕ → Bool
  pub new : State
  pub fixed : replayed (design_of net domains) found.run ≡ Ran (Then past edges new)
  pub run : IsRun (design_of net domains) (Then past edges new)
  pub register : is_register_bit net found.to ≡ true
  pub plain : settles net domains found.to ≡ false
  pub ticking : ticks (design_of net domains) edges found.to ≡ true
  pub loose : IsLoose (design_of net domains) (now past) new.values found.to found.from
  pub taken : new.values found.to ≡ (design_of net domains).next (flipped (has_bit (found.from ∷ [])) (now past).values) found.to
  pub other : new.values found.to ≢ (design_of net domains).next (now past).values found.to

-- what a campaign finds shows a capture
abbrev pub FoundsShowCaptures : Type 0
FoundsShowCaptures = (net : Net) (domains : Domains) (named : List ℕ) (steps seed : ℕ) (found : Found) → CanRun net domains → AreNamed net domains named
    → campaign net domains named steps seed ≡ Some found → ShowsCapture net domains found

-- where the verdict of a net has no finding, a campaign finds nothing
abbrev pub CleanNetsShowNothing : Fits → (Bit → Bit → Bool) → Type 0
CleanNetsShowNothing fits is_extra = (net : Net) (domains : Domains) (e : VerdictEntry) (steps seed : ℕ) (found : Option Found) → CanRun net domains → IsAnswer net domains steps seed found
    → (w : IsVerdictOf net domains is_extra e) → fits (design_of net domains) (net_trees net w.grays) w.syncs e.grays → e.findings ≡ [] → found ≡ None
