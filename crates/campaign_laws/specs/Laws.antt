-- The record that a campaign prints is replayed over the same two texts.
use Rattle.std.specs.Prelude.{◌≡◌, ◌≤◌, ℕ, List, Err}
use Rattle.cdc_base.specs.declared.fault.Fault.{Fault}
use Rattle.cell_graph.specs.declared.net.Net.{Net}
use Rattle.clock_constraints.specs.declared.Constraints.{Constraints}
use Rattle.domains.specs.declared.Domains.{Domains}
use Rattle.cdc_model.specs.declared.record.Record.{Record as RunRecord}
use Rattle.cdc_model.specs.Nets.{design_of}
use Rattle.cdc_model.specs.Replay.{replayed, Ran}
use Rattle.cdc_model.specs.Runs.{Trace}
use Rattle.run_file.specs.Files.{IsMeaning}
use Rattle.command_files.specs.declared.answer.Ending.TheVariants.{Refused}
use Rattle.command_files.specs.declared.status.Status.{Status}
use Rattle.command_files.specs.declared.status.Status.TheVariants.{Record, Violations}
use Rattle.described_design.specs.Designs.{IsDesignOf}
use Rattle.campaign_command.specs.Campaigns.{IsCampaignOf}
use Rattle.replay_command.specs.Replays.{IsReplayUnder}

-- the bytes mean a record of the net, which fixes a run
pub record FixesRun (net : Net) (domains : Domains) (run : List ℕ) : Type 0 where
  pub record_is : RunRecord
  pub means : IsMeaning net domains run record_is
  pub fixed : (t : Trace) × (replayed (design_of net domains) record_is ≡ Ran t)

-- The bytes are a record of the design which a netlist's bytes describe under the constraints of a file with this word and these bytes: whichever net is
-- made of it, they fix a run. So no replay of them is refused for the record.
pub record IsRecordOf (word text con run : List ℕ) : Type 0 where
  pub fixes : (c : Constraints) (net : Net) (domains : Domains) → IsDesignOf word text con c net domains → FixesRun net domains run
  pub whole : (fault : Fault) → ¬ IsReplayUnder word text con run (Err (Refused Record fault))

-- what a campaign of 100,000 steps at most prints with status 1 is a record of the described design
abbrev pub CampaignsReplay : Type 0
CampaignsReplay = (steps seed : ℕ) (word text con : List ℕ) (status : Status) (answer : List ℕ) → steps ≤ 100000
    → IsCampaignOf steps seed word text con status answer → status ≡ Violations → IsRecordOf word text con answer
