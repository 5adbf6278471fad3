-- The runs of a search, step by step.
use Rattle.std.specs.Prelude.{◌≡◌, ℕ, ◌+◌, ◌<◌, ◌≤◌, Option, Some, None, List, [], length, slice_get}
use Rattle.cell_graph.specs.declared.net.Net.{Net}
use Rattle.domains.specs.declared.Domains.{Domains}
use Rattle.cdc_model.specs.declared.record.RecordStep.{RecordStep}
use Rattle.cdc_model.specs.declared.scheme.Crossing.{Crossing}
use Rattle.campaign.specs.declared.found.Found.{Found}
use Rattle.campaign.specs.declared.run.Room.{Room}
use Rattle.campaign.specs.declared.run.Run.{Run}
use Rattle.campaign.specs.Campaign.{capture_after, found_of, in_lanes}
use Rattle.campaign.specs.Rows.{AreValuesIn}
use Rattle.campaign.specs.Run.{HasSpace, IsRunAfter}

-- eight runs, of which those before an index have gone one step more
pub record AreRuns (net : Net) (domains : Domains) (named : List ℕ) (seed n index : ℕ) (runs : List Run) : Type 0 where
  pub eight : length runs ≡ 8
  pub gone : (i : ℕ) (r : Run) → i < index → slice_get runs i ≡ Some r → IsRunAfter net domains named (seed + i) (n + 1) r
  pub left : (i : ℕ) (r : Run) → index ≤ i → slice_get runs i ≡ Some r → IsRunAfter net domains named (seed + i) n r

-- the record of a run with these steps, with what is captured
abbrev pub IsFoundBy : List RecordStep → Crossing → Found → Type 0
IsFoundBy steps c found = found ≡ record { run = record { start = []; steps = steps }; to = c.to; from = c.from }

-- one run has gone a step more, or shows a capture
pub record IsStepOfOne (net : Net) (domains : Domains) (named : List ℕ) (seed n index : ℕ) (cells : List (List ℕ)) (runs : List Run) (room : Room) (found : Option Found) : Type 0 where
  pub is_found : found ≡ found_of net domains named (seed + index) n (capture_after net domains named (seed + index) n)
  pub are_runs : found ≡ None → AreRuns net domains named seed n (index + 1) runs
  pub are_values : found ≡ None → AreValuesIn net runs (index + 1) cells
  pub space : HasSpace net domains room

-- each run has gone a step more, or one shows a capture
pub record IsStepOfRuns (net : Net) (domains : Domains) (named : List ℕ) (seed n : ℕ) (runs : List Run) (room : Room) (found : Option Found) : Type 0 where
  pub is_found : found ≡ in_lanes net domains named n seed 8
  pub are_runs : found ≡ None → AreRuns net domains named seed (n + 1) 0 runs
  pub space : HasSpace net domains room
