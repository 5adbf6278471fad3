-- What callers see of a simulator, and how it steps.
use Rattle.std.specs.Prelude.{◌≡◌, ℕ, false, None, Some, Option, Result, Ok, Err, ⊤, List, [], ◌∷◌, length, replicate}
use Rattle.cdc_base.specs.declared.bit.Bit.{Bit}
use Rattle.cell_graph.specs.declared.cell.CellId.{CellId}
use Rattle.cell_graph.specs.declared.net.Net.{Net}
use Rattle.cell_graph.specs.Unfolded.{IsWellFormed}
use Rattle.cell_graph.specs.Values.{AreWordsOf, reading_of}
use Rattle.cofactor.specs.Shown.{Shown}
use Rattle.domains.specs.declared.Domains.{Domains}
use Rattle.domains.specs.Fit.{Fit}
use Rattle.cdc_model.specs.declared.record.Given.{Given}
use Rattle.cdc_model.specs.declared.record.RecordStep.{RecordStep}
use Rattle.cdc_model.specs.Nets.{bit_count, design_of, is_register_bit}
use Rattle.cdc_model.specs.Recorded.{AreSame}
use Rattle.cdc_model.specs.Replay.{step_fault, stepped, opened}
use Rattle.cdc_model.specs.Runs.{State}
use Rattle.settling_sim.specs.declared.cycles.Cycles.{Cycles}
use Rattle.settling_sim.specs.declared.fault.StepFault.{StepFault}
use Rattle.settling_sim.specs.declared.moment.Moment.{Moment}
use Rattle.settling_sim.specs.declared.trial.Trial.{Trial}
use Rattle.settling_sim.specs.Cycles.{cycles_of}
use Rattle.settling_sim.specs.Design.{take_cells, ShowsCopies}
use Rattle.settling_sim.specs.Faults.{Refuses, meant}
use Rattle.settling_sim.specs.Runs.{HasCells, HasTrial, state_of, IsStepOf}
use Rattle.settling_sim.specs.State.{is_state_signal}

-- a net, its domains, a word for each signal, and the cycles that its bits may still need
pub record Present : Type 0 where
  pub net : Net
  pub domains : Domains
  pub words : List ℕ
  pub cycles : List Cycles

-- the state of the model
abbrev pub state_at : Present → State
state_at p = state_of p.words p.cycles

-- the tables of a run are those of its net, and there is room for a step
pub record IsKept (net : Net) (domains : Domains) (cells : List (Option CellId)) (copies : Shown) (moment : Moment) (trial : Trial) : Type 0 where
  pub are_next : cells ≡ take_cells net.regs (replicate (length net.graph.signals) None)
  pub shows : IsWellFormed net.graph → ShowsCopies net copies
  pub words : length moment.words.items ≡ length net.graph.signals
  pub cycles : length moment.cycles.items ≡ length net.graph.signals
  pub room : HasTrial net domains trial

-- the net is one that runs, its domains fit, the words are of its signals, and register bits alone are unsettled
pub record CanStep (p : Present) : Type 0 where
  pub cells : HasCells p.net
  pub fit : Fit p.net p.domains
  pub words : AreWordsOf p.net.graph.signals p.words
  pub rest : (b : Bit) → is_register_bit p.net b ≡ false → cycles_of p.cycles b ≡ 0

-- a step is refused by the model's first fault, or it has none and leads to the model's next state
abbrev pub IsStepped : Present → RecordStep → Present → Result ⊤ StepFault → Type 0
IsStepped old k new (Ok done) = (step_fault (design_of old.net old.domains) (state_at old) k ≡ None)
    × AreSame (state_at new) (stepped (design_of old.net old.domains) (state_at old) k) × CanStep new
IsStepped old k new (Err f) = step_fault (design_of old.net old.domains) (state_at old) k ≡ Some (meant f)
