-- What drives bits, as it is counted, and how the trial of drivers ends.
use Rattle.std.specs.Prelude.{◌≡◌, ℕ, suc, ◌+◌, ◌<◌, Bool, ◌&&◌, ◌||◌, ◌==◌, nat_le, List, [], ◌∷◌, map, Result, Ok, Err}
use Rattle.std.specs.List.{list_any}
use Rattle.cdc_base.specs.declared.signal.Signal.{Signal}
use Rattle.cdc_base.specs.declared.fault.Stop.{Stop}
use Rattle.cdc_base.specs.declared.fault.Stop.TheVariants.{Refused, Memory}
use Rattle.flat_form.specs.declared.flat.FlatAssign.{FlatAssign}
use Rattle.flat_form.specs.declared.flat.FlatComb.{FlatComb}
use Rattle.flat_form.specs.declared.flat.FlatClocked.{FlatClocked}
use Rattle.flat_form.specs.View.{target_of, expr_of, stmt_of}
use Rattle.flat_form.specs.Masks.{bits_in}
use Rattle.flat_meaning.specs.Law.{expr_reads}
use Rattle.flat_form.specs.Uses.{target_reads, stmt_reads}
use Rattle.flat_meaning.specs.Deps.{Bits, union}
use Rattle.flat_meaning.specs.Flat.{Expr, Target, Stmt}
use Rattle.flat_meaning.specs.Design.{Flat}
use Rattle.flat_unfolding.specs.Outcome.{Outcome, good, bad}
use Rattle.flat_unfolding.specs.Drivers.{assigned_by, bodies, is_from_outside}
use Rattle.flat_drivers.specs.declared.drivers.Drivers.{Drivers}

-- ---- the design on trial

abbrev pub assigned_in : List FlatAssign → List (Target × Expr)
assigned_in = map (λ (a : FlatAssign). (target_of a.target, expr_of a.value))

abbrev pub wires_in : List FlatComb → List Stmt
wires_in = map (λ (p : FlatComb). stmt_of p.body)

abbrev pub clocked_in : List FlatClocked → List (ℕ × Stmt)
clocked_in = map (λ (p : FlatClocked). (p.clock, stmt_of p.body))

abbrev pub bodies_in : List FlatClocked → List Stmt
bodies_in clocked = map (λ (p : ℕ × Stmt). p.1) (clocked_in clocked)

-- no trial asks for the outputs
abbrev pub design_of : List Signal → List FlatAssign → List FlatComb → List FlatClocked → Flat
design_of signals assigns combs clocked =
    record { signals = signals; assigns = assigned_in assigns; combs = wires_in combs; clocked = clocked_in clocked; outputs = [] }

-- a signal before and after registers are marked: of one that no clocked process assigns, both or neither are from outside
pub record IsMarked (processes : ℕ) (x y : Signal) : Type 0 where
  pub declared : y ≡ record x { kind = y.kind; known = y.known; start = y.start }
  pub outside : processes ≡ 0 → is_from_outside y.kind ≡ is_from_outside x.kind

abbrev pub AreMarked : (ℕ → ℕ) → ℕ → List Signal → List Signal → Type 0
AreMarked processes n [] [] = Unit {0}
AreMarked processes n (x ∷ xs) (y ∷ ys) = IsMarked (processes n) x y × AreMarked processes (suc n) xs ys
AreMarked processes n xs ys = ⊥

-- the finished design f is the design g with its registers marked
pub record IsFinished (g f : Flat) : Type 0 where
  pub signals : AreMarked (assigned_by (bodies g)) 0 g.signals f.signals
  pub assigns : f.assigns ≡ g.assigns
  pub combs : f.combs ≡ g.combs
  pub clocked : f.clocked ≡ g.clocked

-- ---- counts

-- so many drivers of each bit, and so many processes that assign each signal
pub record Counts (wid : ℕ → ℕ) (d : Drivers) (times : ℕ → ℕ → ℕ) (processes : ℕ → ℕ) : Type 0 where
  pub driven : (s i : ℕ) → i < wid s → i < 64 → bits_in d.once s i ≡ nat_le 1 (times s i)
  pub doubly : (s i : ℕ) → i < wid s → i < 64 → bits_in d.twice s i ≡ (nat_le 2 (times s i) || nat_le 2 (processes s))
  pub assigning : (s i : ℕ) → i < 64 → bits_in d.by_process s i ≡ ((i == 0) && nat_le 1 (processes s))

-- the new ones count so many more
pub record CountsMore (wid : ℕ → ℕ) (old new : Drivers) (times : ℕ → ℕ → ℕ) (processes : ℕ → ℕ) : Type 0 where
  pub counts : (t : ℕ → ℕ → ℕ) (p : ℕ → ℕ) → Counts wid old t p → Counts wid new (λ s i. t s i + times s i) (λ s. p s + processes s)

-- what assignments, bodies of processes and clocks read
module _ (wid : ℕ → ℕ) where
  abbrev pub assigns_read : List (Target × Expr) → Bits
  assigns_read assigns s i = list_any (λ (a : Target × Expr). union (expr_reads wid a.1) (target_reads wid a.0) s i) assigns

  abbrev pub bodies_read : List Stmt → Bits
  bodies_read bodies s i = list_any (λ body. stmt_reads wid body s i) bodies

abbrev pub clocks_read : List (ℕ × Stmt) → Bits
clocks_read clocked s i = list_any (λ (p : ℕ × Stmt). (p.0 == s) && (i == 0)) clocked

-- the signal is one of these
abbrev pub is_among : List ℕ → ℕ → Bool
is_among xs s = list_any (λ x. s == x) xs

-- ---- how a trial ends

-- as the outcome says, or for want of memory
abbrev pub Meets : Outcome (Unit {0}) → Result (Unit {0}) Stop → Type 0
Meets o (Ok u) = o ≡ good tt
Meets o (Err (Refused fault)) = o ≡ bad fault
Meets o (Err Memory) = Unit {0}

-- a step that lets pass what comes later, or refuses whatever comes later
abbrev pub Tries : (Outcome (Unit {0}) → Outcome (Unit {0})) → Result (Unit {0}) Stop → Type 0
Tries step (Ok u) = (later : Outcome (Unit {0})) → step later ≡ later
Tries step (Err (Refused fault)) = (later : Outcome (Unit {0})) → step later ≡ bad fault
Tries step (Err Memory) = Unit {0}
