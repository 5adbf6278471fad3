-- Steps and runs: any clocks tick together, and a flop that samples a changing or unsettled bit may take either value.
use Rattle.std.specs.Prelude.{◌≡◌, ◌≢◌, zero, suc, ℕ, ◌<◌, ◌≤◌, ◌-◌, Bool, true, false, cond, Option, Some, None, ◌⊎◌}
use Rattle.cdc_base.specs.declared.bit.Bit.{Bit}
use Rattle.cell_graph.specs.Reading.{Reading}
use Rattle.cdc_model.specs.Design.{Design, are_async, are_equal, flipped, settle_of}

-- A moment of a run.
pub record State : Type 0 where
  pub values : Reading
  -- the cycles of its clock that a register bit may still need to settle; 0 where it is settled
  pub left : Bit → ℕ

-- the clock is there, and is one of the set
abbrev pub is_in : Option ℕ → (ℕ → Bool) → Bool
is_in None edges = false
is_in (Some c) edges = edges c

-- the bit's clock has an edge
abbrev pub ticks : Design → (ℕ → Bool) → Bit → Bool
ticks d edges x = is_in (d.clock x) edges

-- x may sample b either way in a step from old to the values new
pub data IsLoose (d : Design) (old : State) (new : Reading) (x b : Bit) : Type 0 where
  -- b changes, in another group than x's
  Changes : are_async d b x ≡ true → old.values b ≢ new b → IsLoose d old new x b
  -- b is unsettled, unless x copies it on its own clock and it needs one cycle more, which it has had by then
  Unsettled : 1 ≤ old.left b → (d.clock b ≡ d.clock x → d.copied x ≡ Some b → old.left b ≡ 1 → ⊥) → IsLoose d old new x b

-- only loose bits are flipped
abbrev pub AreLoose : Design → State → Reading → Bit → (Bit → Bool) → Type 0
AreLoose d old new x flips = (b : Bit) → flips b ≡ true → IsLoose d old new x b

-- the cycles that x needs where it is unsettled: one less than the bit that it copies on its own clock, or else all of its clock's
abbrev pub left_by : Design → State → Bit → Option Bit → ℕ
left_by d old x None = settle_of d x
left_by d old x (Some b) = cond (are_equal (d.clock b) (d.clock x)) (old.left b - 1) (settle_of d x)

-- A step: the clocks of a set tick together.
pub record IsStep (d : Design) (edges : ℕ → Bool) (old new : State) : Type 0 where
  -- the set isn't empty
  pub edge : (c : ℕ) × (c < d.clocks) × (edges c ≡ true)
  -- a ticking register bit takes its next value with some bits that are loose for it flipped
  pub captured : (x : Bit) → d.is_register x ≡ true → ticks d edges x ≡ true
      → (flips : Bit → Bool) × AreLoose d old new.values x flips × (new.values x ≡ d.next (flipped flips old.values) x)
  -- it is settled, or other loose bits would have given it the other value
  pub metastable : (x : Bit) → d.is_register x ≡ true → ticks d edges x ≡ true → (new.left x ≡ 0)
      ⊎ ((flips : Bit → Bool) × AreLoose d old new.values x flips × (d.next (flipped flips old.values) x ≢ new.values x) × (new.left x ≡ left_by d old x (d.copied x)))
  -- without an edge it keeps its value and the cycles that it needs
  pub held : (x : Bit) → d.is_register x ≡ true → ticks d edges x ≡ false
      → (new.values x ≡ old.values x) × (new.left x ≡ old.left x)
  -- clocked inputs change at edges of their clocks alone, and static bits never
  pub kept : (b : Bit) → d.is_register b ≡ false → (d.is_input b ≡ true → ticks d edges b ≡ false) → new.values b ≡ old.values b
  -- only register bits are unsettled
  pub registers_only : (b : Bit) → 1 ≤ new.left b → d.is_register b ≡ true

-- A first state has the known start values, and is settled.
pub record IsFirst (d : Design) (s : State) : Type 0 where
  pub start : (b : Bit) (v : Bool) → d.start b ≡ Some v → s.values b ≡ v
  pub settled : (b : Bit) → s.left b ≡ 0

-- the states so far and the clocks that ticked between them; the latest step is outermost
pub data Trace : Type 0 where
  Start : State → Trace
  Then : Trace → (ℕ → Bool) → State → Trace

-- the present state
abbrev pub now : Trace → State
now (Start s) = s
now (Then past edges s) = s

-- any steps, from any first state
abbrev pub IsRun : Design → Trace → Type 0
IsRun d (Start s) = IsFirst d s
IsRun d (Then past edges s) = IsRun d past × IsStep d edges (now past) s

-- P holds in each step of each run: of the run before it, the clocks that tick, and the state after it
abbrev pub InEachStep : Design → (Trace → (ℕ → Bool) → State → Type 0) → Type 0
InEachStep d P = (past : Trace) (edges : ℕ → Bool) (new : State) → IsRun d (Then past edges new) → P past edges new

-- the states before and after the last step but n in which clock c ticked
abbrev pub around : ℕ → ℕ → Trace → Option (State × State)
around c n (Start s) = None
around c zero (Then past edges s) = cond (edges c) (Some (now past, s)) (around c zero past)
around c (suc n) (Then past edges s) = cond (edges c) (around c n past) (around c (suc n) past)

-- P holds of each state of the run
abbrev pub InEachState : (State → Type 0) → Trace → Type 0
InEachState P (Start s) = P s
InEachState P (Then past edges s) = InEachState P past × P s
