-- What the replay of a record answers.
use Rattle.std.specs.Prelude.{◌≡◌, ◌⊎◌, ℕ, List, Result, Ok, Err}
use Rattle.cdc_base.specs.declared.fault.Fault.{Fault}
use Rattle.cdc_base.specs.declared.fault.Stop.{Stop}
use Rattle.cdc_base.specs.declared.fault.Stop.TheVariants as stop
use Rattle.cell_graph.specs.declared.net.Net.{Net}
use Rattle.clock_constraints.specs.declared.Constraints.{Constraints}
use Rattle.domains.specs.declared.Domains.{Domains}
use Rattle.cdc_model.specs.declared.record.Record.{Record as RunRecord}
use Rattle.run_file.specs.Files.{IsBroken, IsMeaning}
use Rattle.run_report.specs.Printed.{IsRunText}
use Rattle.command_files.specs.declared.answer.Ending.{Ending}
use Rattle.command_files.specs.declared.answer.Ending.TheVariants.{Refused, Memory}
use Rattle.command_files.specs.declared.status.Status.{Status}
use Rattle.command_files.specs.declared.status.Status.TheVariants.{Done, Record}
use Rattle.described_design.specs.Designs.{IsDesignOf}
use Rattle.described_design.specs.Refused.{AreTextsRefused}

-- the bytes mean a record, and the answer is that to the run which it fixes
abbrev pub IsRunOf : Net → Domains → List ℕ → Result (List ℕ) Stop → Type 0
IsRunOf net domains bytes answer = (r : RunRecord) × IsMeaning net domains bytes r × IsRunText net domains r answer

-- the text of the run that the record fixes; or a refusal with the record's status, for the first rule that the bytes break or the first step
-- by which no run goes on; or want of memory
abbrev pub IsReplayOf : Net → Domains → List ℕ → Result (List ℕ) Ending → Type 0
IsReplayOf net domains bytes (Ok text) = IsRunOf net domains bytes (Ok text)
IsReplayOf net domains bytes (Err (Refused status fault)) =
    (status ≡ Record) × (IsBroken net domains bytes fault ⊎ IsRunOf net domains bytes (Err (stop.Refused fault)))
IsReplayOf net domains bytes (Err Memory) = Unit {0}

-- the answer is that to a record's bytes over the design which a netlist's bytes describe under the constraints of a file with this word and these bytes
pub record IsReplayUnder (word net_bytes con run : List ℕ) (answer : Result (List ℕ) Ending) : Type 0 where
  pub constraints : Constraints
  pub net : Net
  pub domains : Domains
  pub design : IsDesignOf word net_bytes con constraints net domains
  pub replayed : IsReplayOf net domains run answer

-- the run that the record fixes is printed
abbrev pub IsReplayDone : List ℕ → List ℕ → List ℕ → List ℕ → Status → List ℕ → Type 0
IsReplayDone word net con run status text = (status ≡ Done) × IsReplayUnder word net con run (Ok text)

-- the texts describe no design; or the record's bytes mean no record, or one that fixes no run
pub data IsReplayRefused (word net con run : List ℕ) (fault : Fault) (status : Status) : Type 0 where
  texts : AreTextsRefused word net con fault status → IsReplayRefused word net con run fault status
  of_record : status ≡ Record → IsReplayUnder word net con run (Err (Refused Record fault)) → IsReplayRefused word net con run fault status
