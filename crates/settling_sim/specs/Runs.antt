-- Runs of a net as the model has them.
use Rattle.std.specs.Prelude.{◌≡◌, ◌≢◌, ℕ, ◌<◌, ◌^◌, Bool, true, Some, None, Result, Ok, Err, ⊤, List, [], ◌∷◌, length, All, AllPairs, Contains}
use Rattle.cdc_base.specs.declared.bit.Bit.{Bit}
use Rattle.cell_graph.specs.declared.cell.CellId.{CellId}
use Rattle.cell_graph.specs.declared.net.Net.{Net}
use Rattle.cell_graph.specs.declared.net.Reg.{Reg}
use Rattle.cell_graph.specs.Cells.{cell_width}
use Rattle.cell_graph.specs.Cofactor.{same}
use Rattle.cell_graph.specs.Unfolded.{IsWellFormed, tree_of}
use Rattle.cell_graph.specs.Values.{AreWordsOf, reading_of, values_of}
use Rattle.cofactor.specs.Shown.{same_at}
use Rattle.domains.specs.declared.Domains.{Domains}
use Rattle.domains.specs.Fit.{Fit}
use Rattle.domains.specs.Nets.{is_register}
use Rattle.cdc_model.specs.declared.record.Given.{Given}
use Rattle.cdc_model.specs.declared.record.Race.{Race}
use Rattle.cdc_model.specs.declared.record.RecordStep.{RecordStep}
use Rattle.cdc_model.specs.Nets.{AreAscending, bit_count, design_of, is_within, is_register_bit}
use Rattle.cdc_model.specs.Recorded.{AreSame}
use Rattle.cdc_model.specs.Replay as model
use Rattle.cdc_model.specs.Runs.{State}
use Rattle.settling_sim.specs.declared.cycles.Cycles.{Cycles}
use Rattle.settling_sim.specs.declared.fault.StepFault.{StepFault}
use Rattle.settling_sim.specs.declared.trial.Trial.{Trial}
use Rattle.settling_sim.specs.Cycles.{cycles_of}
use Rattle.settling_sim.specs.Reader.{HasRoom}
use Rattle.settling_sim.specs.Faults.{meant}
use Rattle.settling_sim.specs.State.{has_kind, is_clocked_input}

-- the state of the model
abbrev pub state_of : List ℕ → List Cycles → State
state_of words cycles = record { values = reading_of words; left = cycles_of cycles }

-- a net that runs: its graph is well formed, and its registers are signals of that kind and ascend, each with a next value of its width
pub record HasCells (net : Net) : Type 0 where
  pub graph : IsWellFormed net.graph
  pub ascending : AreAscending net.regs
  pub kinds : (r : Reg) → Contains net.regs r → has_kind net is_register r.sig ≡ true
  pub registers : (r : Reg) → Contains net.regs r → (r.next.0 < length net.graph.cells) × (cell_width net.graph r.next ≡ bit_count net.graph.signals r.sig)

-- a value of a clocked input, which fits it
pub record IsInput (net : Net) (domains : Domains) (g : Given) : Type 0 where
  pub clocked : is_clocked_input net domains g.sig ≡ true
  pub fits : g.value < 2 ^ bit_count net.graph.signals g.sig

-- a race of a register bit, over bits of the net
pub record IsRace (net : Net) (r : Race) : Type 0 where
  pub bit : is_register_bit net r.bit ≡ true
  pub flips : All (λ b. is_within net b ≡ true) r.flip
  pub others : (bs : List Bit) → r.other ≡ Some bs → All (λ b. is_within net b ≡ true) bs

-- inputs and races of a step: each input and each racing bit once
pub record IsStepOf (net : Net) (domains : Domains) (k : RecordStep) : Type 0 where
  pub inputs : All (IsInput net domains) k.inputs
  pub once : AllPairs (λ (g : Given) (h : Given). g.sig ≢ h.sig) k.inputs
  pub races : All (IsRace net) k.races
  pub one_each : AllPairs (λ (r : Race) (q : Race). r.bit ≢ q.bit) k.races

-- there is room for a step
pub record HasTrial (net : Net) (domains : Domains) (trial : Trial) : Type 0 where
  pub ticking : length trial.ticking.items ≡ length domains.clocks
  pub words : length trial.words.items ≡ length net.graph.signals
  pub cycles : length trial.cycles.items ≡ length net.graph.signals
  pub reader : HasRoom net trial.reader
