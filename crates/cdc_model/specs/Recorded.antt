-- Designs that records can speak of, and runs that go through the same states.
use Rattle.std.specs.Prelude.{◌≡◌, ℕ, ◌<◌, true, Some, List, Contains}
use Rattle.cdc_base.specs.declared.bit.Bit.{Bit}
use Rattle.cdc_model.specs.Design.{Design}
use Rattle.cdc_model.specs.Runs.{State, Trace, Start, Then, ticks}

-- A design has finitely many register bits and inputs, and each clock a number.
pub record IsFinite (d : Design) : Type 0 where
  pub registers : (bs : List Bit) × ((b : Bit) → d.is_register b ≡ true → Contains bs b)
  pub inputs : (sigs : List ℕ) × ((b : Bit) → d.is_input b ≡ true → Contains sigs b.sig)
  pub numbered : (b : Bit) (c : ℕ) → d.clock b ≡ Some c → c < d.clocks
  -- the bits of an input have one clock
  pub input_clock : (b : Bit) → d.is_input b ≡ true → d.clock (record { sig = b.sig; at = 0 }) ≡ d.clock b

-- the same values, and the same cycles to settle
abbrev pub AreSame : State → State → Type 0
AreSame s t = ((b : Bit) → s.values b ≡ t.values b) × ((b : Bit) → s.left b ≡ t.left b)

-- the same states, bit by bit, by edges of the same bits
abbrev pub AreSameRuns : Design → Trace → Trace → Type 0
AreSameRuns d (Start s) (Start t) = AreSame s t
AreSameRuns d (Start s) (Then q f t) = ⊥
AreSameRuns d (Then p e s) (Start t) = ⊥
AreSameRuns d (Then p e s) (Then q f t) = AreSameRuns d p q × ((b : Bit) → ticks d e b ≡ ticks d f b) × AreSame s t

-- where the run begins
abbrev pub first_state : Trace → State
first_state (Start s) = s
first_state (Then past edges s) = first_state past
