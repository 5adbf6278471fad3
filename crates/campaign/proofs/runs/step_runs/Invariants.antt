use Rattle.std.proofs.Common.{◌≡◌, ◌+◌, ◌-◌, ℕ, List}
use Rattle.campaign.specs.Campaign.{in_lanes}
use Rattle.campaign.specs.Rows.{AreValuesIn}
use Rattle.campaign.specs.Run.{HasSpace, IsPlanned, domains_of, net_of}
use Rattle.campaign.specs.Searched.{AreRuns}
use Rattle.campaign.proofs.runs.step_runs.Given as goal

abbrev pub invariant-loop-index : goal.invariant-loop-index
invariant-loop-index l = (named : List ℕ) (seed n : ℕ) → IsPlanned named l.plan → AreRuns (net_of l.plan) (domains_of l.plan) named seed n 0 l.initial.runs.items
    → AreValuesIn (net_of l.plan) l.initial.runs.items 0 l.cells → HasSpace (net_of l.plan) (domains_of l.plan) l.initial.room → l.number ≡ n + 1
    → AreRuns (net_of l.plan) (domains_of l.plan) named seed n l.index l.runs.items × AreValuesIn (net_of l.plan) l.runs.items l.index l.cells × HasSpace (net_of l.plan) (domains_of l.plan) l.room
    × (in_lanes (net_of l.plan) (domains_of l.plan) named n seed 8 ≡ in_lanes (net_of l.plan) (domains_of l.plan) named n (seed + l.index) (8 - l.index))
