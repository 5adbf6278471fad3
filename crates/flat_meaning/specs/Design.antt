-- Flat designs: what values are consistent with a reading, and what comes next. They know no cell.
use Rattle.std.specs.Prelude.{◌≡◌, ℕ, ◌+◌, ◌<◌, Bool, true, false, cond, ◌&&◌, ◌==◌, List, [], ◌∷◌, All, slice_get}
use Rattle.std.specs.Option.{option_map_or}
use Rattle.cdc_base.specs.declared.signal.SigKind.{SigKind}
use Rattle.cdc_base.specs.declared.signal.SigKind.TheVariants.{Input, Register, Wire}
use Rattle.cdc_base.specs.declared.signal.Signal.{Signal}
use Rattle.cdc_base.specs.declared.bit.Bit.{Bit}
use Rattle.cell_graph.specs.Reading.{Reading}
use Rattle.flat_meaning.specs.Values.{Word, Words}
use Rattle.flat_meaning.specs.Flat.{Expr, Stmt, Target, Whole, Part, Pick, Group, Targets, no_targets, target, target_size, target_sizes, value_size}
use Rattle.flat_meaning.specs.Meaning.{cat, value, index, run_blocking, run_clocked}
use Rattle.flat_meaning.specs.Assigned.{is_within, may_assign}

-- a design without instances; a clocked process has its clock's signal and its body
pub record Flat : Type 0 where
  pub signals : List Signal
  pub assigns : List (Target × Expr)
  pub combs : List Stmt
  pub clocked : List (ℕ × Stmt)
  pub outputs : List ℕ

-- the bits of a signal; none where there is no such signal
abbrev pub width_in : List Signal → ℕ → ℕ
width_in signals s = option_map_or (λ (x : Signal). x.width) (slice_get signals s) 0

abbrev pub size_in : Flat → ℕ → ℕ
size_in f s = width_in f.signals s

abbrev pub kind_in : List Signal → ℕ → SigKind
kind_in signals s = option_map_or (λ (x : Signal). x.kind) (slice_get signals s) Wire

-- what a top input is: one with state bits, a clock pin, or a reset with its inactive level
pub data Pin : Type 0 where
  StatePin ClockPin : Pin
  ResetPin : (inactive : Bool) → Pin

abbrev pub pin_value : Pin → Reading → Reading
pin_value StatePin r b = r b
pin_value ClockPin r b = false
pin_value (ResetPin inactive) r b = inactive && (b.at == 0)

abbrev pub kind_value : SigKind → Pin → Reading → Reading
kind_value Input p r b = pin_value p r b
kind_value Register p r b = r b
kind_value Wire p r b = false

-- the value of each bit that no driver gives: a register's and an input's
abbrev pub given : Flat → (ℕ → Pin) → Reading → Reading
given f pins r b = kind_value (kind_in f.signals b.sig) (pins b.sig) r b

abbrev pub kind_is_variable : SigKind → Bool
kind_is_variable Input = true
kind_is_variable Register = true
kind_is_variable Wire = false

abbrev pub is_variable : Flat → ℕ → Bool
is_variable f s = kind_is_variable (kind_in f.signals s)

-- what a target has
module _ (wid : ℕ → ℕ) (v : Words) where
  abbrev mutual
    pub held : Target → Word
    held (Whole s) i = v s i
    held (Part s at w) i = v s (at + i)
    held (Pick s e) i = v s (index v e)
    held (Group ts) i = all_held ts i

    pub all_held : Targets → Word
    all_held no_targets i = false
    all_held (target t ts) i = cat (held t) (target_sizes wid ts) (all_held ts) i

-- how often a bit is driven
abbrev pub once : Bool → ℕ
once b = cond b 1 0

module _ (wid : ℕ → ℕ) (x i : ℕ) where
  abbrev mutual
    pub times_in : Target → ℕ
    times_in (Whole s) = once ((x == s) && is_within 0 (wid s) i)
    times_in (Part s at w) = once ((x == s) && is_within at w i)
    times_in (Pick s e) = 0
    times_in (Group ts) = all_times_in ts

    pub all_times_in : Targets → ℕ
    all_times_in no_targets = 0
    all_times_in (target t ts) = times_in t + all_times_in ts

  abbrev pub times_assigned : List (Target × Expr) → ℕ
  times_assigned [] = 0
  times_assigned (a ∷ more) = times_in a.0 + times_assigned more

  abbrev pub times_processed : List Stmt → ℕ
  times_processed [] = 0
  times_processed (body ∷ more) = once (may_assign wid body x i) + times_processed more

abbrev pub drivers : Flat → (sig at : ℕ) → ℕ
drivers f x i = times_assigned (size_in f) x i f.assigns + times_processed (size_in f) x i f.combs

abbrev pub bit_of : (sig at : ℕ) → Bit
bit_of s i = record { sig = s; at = i }

-- an assignment's target has its expression's value
abbrev pub HoldsValue : Flat → Words → Target × Expr → Type 0
HoldsValue f v a = (i : ℕ) → i < target_size (size_in f) a.0 → held (size_in f) v a.0 i ≡ value v a.1 (value_size (size_in f) a.0 a.1) i

-- a process of wires, executed on the values, leaves them as they were
abbrev pub IsKept : Flat → Words → Stmt → Type 0
IsKept f v body = (s i : ℕ) → i < size_in f s → run_blocking (size_in f) body v s i ≡ v s i

-- values of all signals that a reading makes
pub record Consistent (f : Flat) (pins : ℕ → Pin) (r : Reading) (v : Words) : Type 0 where
  pub variables : (s i : ℕ) → i < size_in f s → is_variable f s ≡ true → v s i ≡ given f pins r (bit_of s i)
  pub undriven : (s i : ℕ) → i < size_in f s → is_variable f s ≡ false → drivers f s i ≡ 0 → v s i ≡ false
  pub assigned : All (HoldsValue f v) f.assigns
  pub processed : All (IsKept f v) f.combs

-- the bit that a process gives a register's bit: the process that may assign it; one that none may assign keeps its bit
abbrev pub next_in : (ℕ → ℕ) → List (ℕ × Stmt) → Words → (sig at : ℕ) → Bool
next_in wid [] v s i = v s i
next_in wid (p ∷ ps) v s i = cond (may_assign wid p.1 s i) (run_clocked wid p.1 v s i) (next_in wid ps v s i)

abbrev pub Next : Flat → Words → (sig at : ℕ) → Bool
Next f v s i = next_in (size_in f) f.clocked v s i
