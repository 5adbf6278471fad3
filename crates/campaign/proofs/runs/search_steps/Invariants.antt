use Rattle.std.proofs.Common.{◌≡◌, ◌-◌, ℕ, List, length}
use Rattle.campaign.specs.Campaign.{in_steps}
use Rattle.campaign.specs.Run.{HasSpace, IsPlanned, domains_of, net_of}
use Rattle.campaign.specs.Searched.{AreRuns}
use Rattle.campaign.proofs.runs.search_steps.Given as goal

abbrev pub invariant-loop-place : goal.invariant-loop-place
invariant-loop-place l = record {
  words : length l.words.items ≡ length (net_of l.plan).graph.signals;
  cells : length l.cells ≡ length (net_of l.plan).graph.cells;
  space : (named : List ℕ) → IsPlanned named l.plan → HasSpace (net_of l.plan) (domains_of l.plan) l.room;
  runs : (named : List ℕ) → IsPlanned named l.plan → AreRuns (net_of l.plan) (domains_of l.plan) named l.seed l.place 0 l.runs.items;
  steps : (named : List ℕ) → IsPlanned named l.plan
      → in_steps (net_of l.plan) (domains_of l.plan) named l.seed 0 l.steps ≡ in_steps (net_of l.plan) (domains_of l.plan) named l.seed l.place (l.steps - l.place);
}
