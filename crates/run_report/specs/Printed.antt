-- The text of a whole run.
use Rattle.std.specs.Prelude.{◌≡◌, ◌⊎◌, ◌==◌, ◌<◌, ◌^◌, ◌+◌, ℕ, All, List, [], ◌∷◌, ◌++◌, codes, length, Result, Ok, Err, ⊤, if◌then◌else◌}
use Rattle.std.specs.Fmt.{decimal}
use Rattle.cdc_base.specs.declared.bit.Bit.{Bit}
use Rattle.cdc_base.specs.declared.fault.Stop.{Stop}
use Rattle.cdc_base.specs.declared.fault.Stop.TheVariants.{Refused, Memory}
use Rattle.cell_graph.specs.declared.net.Net.{Net}
use Rattle.clock_constraints.specs.Refusals.{broken}
use Rattle.domains.specs.declared.Domains.{Domains}
use Rattle.cdc_model.specs.declared.record.Record.{Record}
use Rattle.cdc_model.specs.declared.record.RecordStep.{RecordStep}
use Rattle.cdc_model.specs.Nets.{bits_of_registers}
use Rattle.settling_sim.specs.declared.cycles.Cycles.{Cycles}
use Rattle.settling_sim.specs.declared.fault.StepFault.{StepFault}
use Rattle.settling_sim.specs.Cycles.{cycles_of}
use Rattle.settling_sim.specs.Opened.{IsOpened}
use Rattle.settling_sim.specs.Present.{Present, CanStep, IsStepped}
use Rattle.settling_sim.specs.Runs.{IsStepOf}
use Rattle.run_report.specs.Lines.{start_lines, IsStepText}
use Rattle.run_report.specs.Refusals.{name_of, number_of}

-- those of the bits that may still need cycles to settle
abbrev pub unsettled_in : List Cycles → List Bit → List Bit
unsettled_in cycles [] = []
unsettled_in cycles (b ∷ bs) = (if cycles_of cycles b == 0 then [] else b ∷ []) ++ unsettled_in cycles bs

-- the text of the first moment
abbrev pub start_of : Net → Domains → List ℕ → List ℕ
start_of net domains words = codes "start\n" ++ start_lines net domains words 0 net.graph.signals

-- the last line, after so many steps
abbrev pub end_line : ℕ → List ℕ
end_line steps = (codes "end steps=" ++ decimal steps) ++ codes "\n"

-- the moment is one of this net and these domains, and steps can be gone from it
pub record IsAt (net : Net) (domains : Domains) (p : Present) : Type 0 where
  pub here : p.net ≡ net
  pub under : p.domains ≡ domains
  pub can : CanStep p

-- the simulator goes the step, from one moment to the other
pub record Leads (net : Net) (domains : Domains) (before : Present) (k : RecordStep) (after : Present) : Type 0 where
  pub stepped : IsStepped before k after (Ok tt)
  pub there : IsAt net domains after

-- the text of a step with this number between two moments; the unsettled bits are those of registers
abbrev pub IsTextBetween : Net → Domains → Present → ℕ → RecordStep → Present → List ℕ → Type 0
IsTextBetween net domains before number k after text =
    IsStepText net domains number k before.words after.words (unsettled_in after.cycles (bits_of_registers net.graph.signals net.regs)) text

-- the simulator refuses the step with this number, for the cause that the refusal names; or memory ran out
abbrev pub IsRefusedAt : Net → Present → ℕ → RecordStep → Stop → Type 0
IsRefusedAt net before number k (Refused f) =
    (cause : StepFault) × IsStepped before k before (Err cause) × (f ≡ broken (number_of cause) (name_of net.graph.signals number cause))
IsRefusedAt net before number k Memory = Unit {0}

-- the text is this one, unless memory ran out
abbrev pub Ends : List ℕ → Result (List ℕ) Stop → Type 0
Ends text (Ok whole) = whole ≡ text
Ends text (Err Memory) = Unit {0}
Ends text (Err (Refused f)) = ⊥

-- an answer that is a refusal of the step with this number
abbrev pub Stops : Net → Present → ℕ → RecordStep → Result (List ℕ) Stop → Type 0
Stops net before number k (Ok whole) = ⊥
Stops net before number k (Err stop) = IsRefusedAt net before number k stop

-- How a run goes on from a moment where so many steps are gone and this text is printed: by the first step that is left, which is refused, or leads to a moment
-- from which the run goes on behind the step's text; and with no step left by the last line. Steps count from 1.
abbrev pub GoesOn : Net → Domains → Present → ℕ → List RecordStep → List ℕ → Result (List ℕ) Stop → Type 0
GoesOn net domains p gone [] text answer = Ends (text ++ end_line gone) answer
GoesOn net domains p gone (k ∷ ks) text answer = Stops net p (gone + 1) k answer
    ⊎ ((q : Present) × (piece : List ℕ) × Leads net domains p k q × IsTextBetween net domains p (gone + 1) k q piece
    × GoesOn net domains q (gone + 1) ks (text ++ piece) answer)

-- steps of records of a net, each of which has a number
pub record AreSteps (net : Net) (domains : Domains) (steps : List RecordStep) : Type 0 where
  pub numbered : length steps < 2 ^ 32
  pub fit : All (IsStepOf net domains) steps

-- what holds of an answer, unless memory ran out
abbrev pub UnlessMemory : Result (List ℕ) Stop → Type 0 → Type 0
UnlessMemory (Ok text) P = P
UnlessMemory (Err (Refused f)) P = P
UnlessMemory (Err Memory) P = Unit {0}

-- the answer to a run of a net: it goes on from the moment that the simulator opens, behind the text of that
abbrev pub IsRunText : Net → Domains → Record → Result (List ℕ) Stop → Type 0
IsRunText net domains run answer = UnlessMemory answer ((p : Present) × IsAt net domains p × IsOpened run.start p
    × GoesOn net domains p 0 run.steps (start_of net domains p.words) answer)

-- the answer of a loop over all steps, with the last line
abbrev pub ended : List ℕ → ℕ → Result ⊤ Stop → Result (List ℕ) Stop
ended text steps (Ok done) = Ok (text ++ end_line steps)
ended text steps (Err stop) = Err stop

-- the answer to one step: the text grows by the step's, or the step is refused
abbrev pub IsPrinted : Net → Domains → Present → ℕ → RecordStep → Present → List ℕ → List ℕ → Result ⊤ Stop → Type 0
IsPrinted net domains before number k after text longer (Ok done) =
    Leads net domains before k after × ((piece : List ℕ) × IsTextBetween net domains before number k after piece × (longer ≡ text ++ piece))
IsPrinted net domains before number k after text longer (Err stop) = IsRefusedAt net before number k stop
