-- The first moment of a run.
use Rattle.std.specs.Prelude.{◌≡◌, ◌≢◌, ℕ, ◌+◌, ◌<◌, ◌≤◌, ◌^◌, Bool, true, false, Some, List, [], ◌∷◌, length, slice_get, All, AllPairs, bit_and, if◌then◌else◌}
use Rattle.cdc_base.specs.declared.bit.Bit.{Bit}
use Rattle.cdc_base.specs.declared.signal.Signal.{Signal}
use Rattle.cell_graph.specs.declared.net.Net.{Net}
use Rattle.cell_graph.specs.Tree.{bit_at}
use Rattle.domains.specs.declared.Domains.{Domains}
use Rattle.domains.specs.Fit.{Fit}
use Rattle.cdc_model.specs.declared.record.Given.{Given}
use Rattle.cdc_model.specs.declared.record.RecordStep.{RecordStep}
use Rattle.cdc_model.specs.Design.{Design}
use Rattle.cdc_model.specs.Nets.{bit_count, design_of, start_of}
use Rattle.cdc_model.specs.Recorded.{AreSame, AreSameRuns, first_state}
use Rattle.cdc_model.specs.Replay.{opened, replayed, Ran}
use Rattle.cdc_model.specs.Runs.{Trace, IsRun}
use Rattle.settling_sim.specs.Present.{Present, CanStep, state_at}
use Rattle.settling_sim.specs.Runs.{HasCells}
use Rattle.settling_sim.specs.Starts.{HasStarts}
use Rattle.settling_sim.specs.State.{is_state_signal}

-- the net is one that runs, its domains fit, each signal has a number, and known start bits are those of state signals
pub record CanOpen (net : Net) (domains : Domains) : Type 0 where
  pub cells : HasCells net
  pub fit : Fit net domains
  pub numbered : length net.graph.signals ≤ 2 ^ 32
  pub starts : HasStarts net domains

-- a value of a state signal, which fits it and agrees with its known start bits
pub record IsStart (net : Net) (domains : Domains) (g : Given) : Type 0 where
  pub state : is_state_signal net domains g.sig ≡ true
  pub fits : g.value < 2 ^ bit_count net.graph.signals g.sig
  pub agrees : (b : Bit) (v : Bool) → b.sig ≡ g.sig → start_of net.graph.signals b ≡ Some v → bit_at g.value b.at ≡ v

-- start values, each of another signal
pub record AreStarts (net : Net) (domains : Domains) (start : List Given) : Type 0 where
  pub each : All (IsStart net domains) start
  pub once : AllPairs (λ (g : Given) (h : Given). g.sig ≢ h.sig) start

-- the state is the one that the model opens, and steps can be made from it
pub record IsOpened (start : List Given) (p : Present) : Type 0 where
  pub state : AreSame (state_at p) (opened (design_of p.net p.domains) start)
  pub can : CanStep p

-- every run from the state that these values open goes through the states of some record's run
abbrev pub HaveRecords : Design → List Given → Type 0
HaveRecords d start = (run : Trace) → IsRun d run → AreSame (first_state run) (opened d start)
    → (ks : List RecordStep) × (q : Trace) × (replayed d (record { start = start; steps = ks }) ≡ Ran q) × AreSameRuns d run q
