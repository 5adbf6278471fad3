-- Constraints that fit together.
use Rattle.std.specs.Prelude.{◌≢◌, ◌<◌, ◌≤◌, ◌++◌, List, length, map, All, AllPairs}
use Rattle.clock_constraints.specs.declared.ClockPin.{ClockPin}
use Rattle.clock_constraints.specs.declared.InputPin.{InputPin}
use Rattle.clock_constraints.specs.declared.Constraints.{Constraints}
use Rattle.clock_constraints.specs.Refusals.{Text}

-- the names of all ports that are declared, in their order
abbrev pub declared_names : Constraints → List Text
declared_names c = ((map (λ k. k.name) c.clocks ++ map (λ i. i.name) c.inputs) ++ map (λ r. r.name) c.resets) ++ c.statics

-- each input's clock is in the list, no port is declared twice, and each clock's bits settle in 1 to 3 cycles
pub record AreFit (c : Constraints) : Type 0 where
  pub inputs : All (λ (i : InputPin). i.clock < length c.clocks) c.inputs
  pub names : AllPairs (λ (a : Text) (b : Text). a ≢ b) (declared_names c)
  pub settles : All (λ (k : ClockPin). (1 ≤ k.settle) × (k.settle ≤ 3)) c.clocks
