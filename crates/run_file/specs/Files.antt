-- What a record says: its meaning on a net, or the first rule that it breaks.
use Rattle.std.specs.Prelude.{◌≡◌, ◌≤◌, ℕ, All, List, [], ◌∷◌, length, nat_lt, Some, Result, Ok, Err, IsUtf8, ⊤, ◌⊎◌, if◌then◌else◌}
use Rattle.cdc_base.specs.declared.fault.Fault.{Fault}
use Rattle.cdc_base.specs.declared.fault.Stop.{Stop}
use Rattle.cdc_base.specs.declared.fault.Stop.TheVariants.{Refused, Memory}
use Rattle.cell_graph.specs.declared.net.Net.{Net}
use Rattle.clock_constraints.specs.Refusals.{Text, broken, ◌>>=◌}
use Rattle.domains.specs.declared.Domains.{Domains}
use Rattle.cdc_model.specs.declared.record.Record.{Record}
use Rattle.serde_json.specs.Data.{Data}
use Rattle.serde_json.specs.Read.{read as read_text}
use Rattle.settling_sim.specs.Opened.{AreStarts}
use Rattle.settling_sim.specs.Runs.{IsStepOf}
use Rattle.run_file.specs.declared.document.Document.{Document}
use Rattle.run_file.specs.Names.{each, start_value, step}
use Rattle.run_file.specs.Shapes.{document}

-- the record that names stand for: not too many steps, then start values, then the steps
abbrev pub named : Net → Domains → Document → Result Record Fault
named net domains doc = if nat_lt 100000 (length doc.steps) then Err (broken 604 []) else do
  start ← each (start_value net domains) doc.start
  steps ← each (step net domains) doc.steps
  Ok (record { start = start; steps = steps })

abbrev pub record_of : Net → Domains → Data → Result Record Fault
record_of net domains d = document d >>= named net domains

-- the text is the JSON value d
abbrev pub IsTree : List ℕ → Data → Type 0
IsTree bytes d = IsUtf8 bytes × (read_text bytes ≡ Some d)

-- the text is JSON that has this meaning
abbrev pub IsMeaning : Net → Domains → List ℕ → Record → Type 0
IsMeaning net domains bytes r = (d : Data) × IsTree bytes d × (record_of net domains d ≡ Ok r)

-- the first rule that the text breaks: it is no JSON, or this rule of a record
abbrev pub IsBroken : Net → Domains → List ℕ → Fault → Type 0
IsBroken net domains bytes f = ((f ≡ broken 501 []) × ((d : Data) → ¬ IsTree bytes d))
    ⊎ ((d : Data) × IsTree bytes d × (record_of net domains d ≡ Err f))

abbrev pub IsStopOf : Net → Domains → List ℕ → Stop → Type 0
IsStopOf net domains bytes (Refused f) = IsBroken net domains bytes f
IsStopOf net domains bytes Memory = ⊤

-- The record is one of this net: start values, inputs and races that fit it, each named once, and not too many steps.
pub record FitsNet (net : Net) (domains : Domains) (r : Record) : Type 0 where
  pub starts : AreStarts net domains r.start
  pub steps : All (IsStepOf net domains) r.steps
  pub few : length r.steps ≤ 100000
