-- The text of a record that a campaign finds is read back.
use Rattle.std.specs.Prelude.{◌≡◌, ◌<◌, ◌≤◌, ℕ, true, Option, Some, Err, List, length, IsUtf8}
use Rattle.cdc_base.specs.declared.bit.Bit.{Bit}
use Rattle.cdc_base.specs.declared.fault.Fault.{Fault}
use Rattle.cdc_base.specs.declared.fault.Stop.TheVariants.{Refused}
use Rattle.cell_graph.specs.declared.net.Net.{Net}
use Rattle.clock_constraints.specs.Refusals.{Text}
use Rattle.domains.specs.declared.Domains.{Domains}
use Rattle.domains.specs.Tables.{first_clock, first_signal}
use Rattle.cdc_model.specs.declared.record.Record.{Record}
use Rattle.cdc_model.specs.Nets.{design_of, is_within}
use Rattle.cdc_model.specs.Replay.{replayed, Ran}
use Rattle.cdc_model.specs.Runs.{Trace}
use Rattle.report.specs.Names.{bit_of}
use Rattle.run_file.specs.Files.{IsBroken, IsMeaning}
use Rattle.run_file.specs.Names.{bit_named}
use Rattle.run_report.specs.Printed.{IsRunText}
use Rattle.campaign.specs.declared.found.Found.{Found}
use Rattle.campaign.specs.Campaign.{IsAnswer}
use Rattle.campaign.specs.Lines.{clock_name, IsLine}
use Rattle.campaign.specs.Names.{name_of}
use Rattle.campaign.specs.Run.{CanRun}

-- the name is UTF-8, and stands for x
abbrev pub StandsFor : {A : Type 0} → (Text → Option A) → Text → A → Type 0
StandsFor named name x = IsUtf8 name × (named name ≡ Some x)

-- Each signal, each clock and each bit is found by its printed name.
pub record AreFound (net : Net) (domains : Domains) : Type 0 where
  pub signals : (sig : ℕ) → sig < length net.graph.signals → StandsFor (first_signal net.graph.signals) (name_of net.graph.signals sig) sig
  pub clocks : (c : ℕ) → c < length domains.clocks → StandsFor (first_clock domains.clocks) (clock_name domains c) c
  pub bits : (b : Bit) → is_within net b ≡ true → StandsFor (bit_named net.graph.signals) (bit_of net.graph.signals b) b

-- The text means this record and no other, and breaks no rule of records; the record fixes a run, whose text isn't refused.
pub record IsReadBack (net : Net) (domains : Domains) (text : List ℕ) (run : Record) : Type 0 where
  pub means : IsMeaning net domains text run
  pub alone : (other : Record) → IsMeaning net domains text other → other ≡ run
  pub whole : (f : Fault) → ¬ IsBroken net domains text f
  pub fixed : (t : Trace) × (replayed (design_of net domains) run ≡ Ran t)
  pub runs : (f : Fault) → ¬ IsRunText net domains run (Err (Refused f))

-- what a campaign writes of what it finds is read back
abbrev pub FoundRecordsAreRead : Type 0
FoundRecordsAreRead = (net : Net) (domains : Domains) (steps seed : ℕ) (found : Found) (text : List ℕ) → CanRun net domains → AreFound net domains → steps ≤ 100000
    → IsAnswer net domains steps seed (Some found) → IsLine net domains found.run text → IsReadBack net domains text found.run
