-- The words with which a run begins.
use Rattle.std.specs.Prelude.{◌≡◌, ℕ, ◌+◌, ◌<◌, ◌^◌, true, false, Some, List, [], ◌∷◌, slice_get, bit_and, if◌then◌else◌}
use Rattle.cdc_base.specs.declared.signal.Signal.{Signal}
use Rattle.cell_graph.specs.declared.net.Net.{Net}
use Rattle.domains.specs.declared.Domains.{Domains}
use Rattle.settling_sim.specs.State.{is_state_signal}

-- known start bits lie in their signals, and only signals that hold state have any
pub record HasStarts (net : Net) (domains : Domains) : Type 0 where
  pub within : (sig : ℕ) (s : Signal) → slice_get net.graph.signals sig ≡ Some s → s.known < 2 ^ s.width
  pub states : (sig : ℕ) (s : Signal) → slice_get net.graph.signals sig ≡ Some s → is_state_signal net domains sig ≡ false → s.known ≡ 0

-- the known start bits of a signal that holds state; 0 for any other one
abbrev pub start_word : Net → Domains → ℕ → Signal → ℕ
start_word net domains sig s = if is_state_signal net domains sig then bit_and s.start s.known else 0

-- those of each signal, from number k on
abbrev pub start_words : Net → Domains → ℕ → List Signal → List ℕ
start_words net domains k [] = []
start_words net domains k (s ∷ ss) = start_word net domains k s ∷ start_words net domains (k + 1) ss
