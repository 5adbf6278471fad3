-- The signals of a design that is done: which are registers, and their start values.
use Rattle.std.specs.Prelude.{◌≡◌, ℕ, ◌<◌, ◌≤◌, Bool, true, false, List, Some, is_some, unwrap_or, slice_get}
use Rattle.cdc_base.specs.declared.signal.Signal.{Signal}
use Rattle.cdc_base.specs.declared.signal.SigKind.TheVariants.{Register}
use Rattle.cell_graph.specs.Tree.{bit_at}
use Rattle.flat_unfolding.specs.Design.{Design}
use Rattle.flat_unfolding.specs.Signals.{known_bits, start_bits}
use Rattle.flat_unfolding.specs.Starts.{given_bit, first_start}
use Rattle.flat_names.specs.declared.design.Entry.{Entry}

-- an entry has what the design tells of a signal's start values
pub record HasKept (d : Design) (s : ℕ) (x : Entry) : Type 0 where
  pub narrow : x.width ≤ 64
  pub start : x.start ≡ first_start d.starts s
  pub known : (i : ℕ) → i < 64 → bit_at x.reset_known i ≡ is_some (given_bit d.givens s i)
  pub value : (i : ℕ) → i < 64 → bit_at x.reset_start i ≡ unwrap_or (given_bit d.givens s i) false

-- each signal has its entry
abbrev pub AreKept : Design → List Entry → List Signal → Type 0
AreKept d entries signals = (s : ℕ) (y : Signal) → slice_get signals s ≡ Some y → (x : Entry) × (slice_get entries s ≡ Some x) × (x.width ≡ y.width) × HasKept d s x

-- a signal, made a register where it is one
abbrev pub finished_at : Design → ℕ → Bool → Signal → Signal
finished_at d s true y = record y { kind = Register; known = known_bits d s y.width true; start = start_bits d s y.width true }
finished_at d s false y = y
