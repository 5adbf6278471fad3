-- What holds of every unfolding.
use Rattle.std.specs.Prelude.{◌≡◌, ◌≢◌, ℕ, true, ◌+◌, ◌<◌, ◌≤◌, List, [], ◌∷◌, ◌++◌, length, map, All, Contains, Option, Some}
use Rattle.cdc_base.specs.declared.signal.ResetPin.{ResetPin}
use Rattle.verilog_reading.specs.SourceTree.{ModuleTree}
use Rattle.flat_meaning.specs.Law.{AreWords}
use Rattle.cdc_base.specs.declared.signal.SigKind.TheVariants.{Register}
use Rattle.flat_meaning.specs.Flat.{Stmt, assigns}
use Rattle.flat_meaning.specs.Design.{Flat, size_in, kind_in, drivers, times_processed}
use Rattle.flat_meaning.specs.Sound.{IsSound}
use Rattle.flat_unfolding.specs.Drivers.{assigned_by, bodies}
use Rattle.flat_unfolding.specs.Outcome.{Text, Broken, Order, first_of_all, good}
use Rattle.cdc_base.specs.declared.fault.Place.{Place}
use Rattle.flat_unfolding.specs.Names.{Range, Entry}
use Rattle.flat_unfolding.specs.Parameters.{Overrides}
use Rattle.flat_unfolding.specs.Instances.{Link, connected}
use Rattle.flat_unfolding.specs.Design.{Design, Stage}
use Rattle.flat_unfolding.specs.Formed.{IsSourceFormed}
use Rattle.flat_form.specs.declared.flat.Flat as f
use Rattle.flat_form.specs.View.{flat_of}
use Rattle.flat_form.specs.Sizes.{IsWellSized}
use Rattle.flat_unfolding.specs.Sized.{IsSizedFlat}
use Rattle.flat_unfolding.specs.Widths.{KeepsSizes}
use Rattle.flat_unfolding.specs.Unfolding.{module_named, visit, unfolded}

-- of the rules that an item breaks the refusal tells one
abbrev pub OneIsToldLaw : Type 0
OneIsToldLaw = (order : Order) (b : Broken) (bs : List Broken) → Contains (b ∷ bs) (first_of_all order b bs)

-- and none of them is tried before it
abbrev pub FirstIsToldLaw : Type 0
FirstIsToldLaw = (order : Order) (b : Broken) (bs : List Broken) → All (λ (c : Broken). order (first_of_all order b bs).number ≤ order c.number) (b ∷ bs)

-- no bit of the flat design has two drivers
abbrev pub OneDriverLaw : Type 0
OneDriverLaw = (modules : List ModuleTree) (top : Text) (resets : List ResetPin) (named : List Text) (f : Flat) → unfolded modules top resets named ≡ good f
    → (s i : ℕ) → i < size_in f s → drivers f s i ≤ 1

-- a signal of the flat design has 64 bits at most, and there are 1,048,576 signals at most
abbrev pub LimitsLaw : Type 0
LimitsLaw = (modules : List ModuleTree) (top : Text) (resets : List ResetPin) (named : List Text) (f : Flat) → unfolded modules top resets named ≡ good f
    → AreWords (size_in f) × (length f.signals ≤ 1048576)

-- the bound on the depth of visits is no rule: with a greater one the unfolding is the same
abbrev pub DepthLaw : Type 0
DepthLaw = (modules : List ModuleTree) (top : Text) (m : ModuleTree) → module_named top modules ≡ Some m → (ports : Stage → Stage) (d : Design) (more : ℕ)
    → visit modules (length modules + more) [] (m.name ∷ []) m [] ports d ≡ visit modules (length modules) [] (m.name ∷ []) m [] ports d

-- what stays of a declared signal: its own name, its printed name, its place and its range
pub record Kept : Type 0 where
  pub own : Text
  pub printed : Text
  pub place : Place
  pub range : Option Range

abbrev pub kept : Entry → Kept
kept e = record { own = e.own; printed = e.printed; place = e.place; range = e.range }

-- these signals stand behind those, which keep their numbers
abbrev pub StandsBehind : (before after : List Entry) → Type 0
StandsBehind before after = (more : List Kept) × (map kept after ≡ map kept before ++ more)

-- the signals of an instance's module, and those of its instances, come behind all that were declared before
abbrev pub NumbersLaw : Type 0
NumbersLaw = (modules : List ModuleTree) (n : ℕ) (prefix : Text) (visiting : List Text) (m : ModuleTree) (overrides : Overrides) (links : List Link) (d : Design) (e : Stage)
    → visit modules n prefix visiting m overrides (connected links) d ≡ good e → StandsBehind d.entries e.design.entries

-- each word of the flat design has 1 to 64 bits, numbers fit in theirs, and what is selected lies in its signal
abbrev pub SizesLaw : Type 0
SizesLaw = (modules : List ModuleTree) → IsSourceFormed modules → (top : Text) (resets : List ResetPin) (named : List Text) (f : Flat) → unfolded modules top resets named ≡ good f → IsSizedFlat f

-- the flat design keeps the rules that the law of elaboration rests on
abbrev pub SoundLaw : Type 0
SoundLaw = (modules : List ModuleTree) → IsSourceFormed modules → (top : Text) (resets : List ResetPin) (named : List Text) (f : Flat) → unfolded modules top resets named ≡ good f → IsSound f

-- what the layers above may rest on: clocked processes assign registers and nothing else, each bit of a register at most one of them, and
-- those of one register have one clock; a clock has one bit
pub record IsWellClocked (f : Flat) : Type 0 where
  pub registers : (s : ℕ) → kind_in f.signals s ≡ Register → 1 ≤ assigned_by (bodies f) s
  pub others : (s : ℕ) → kind_in f.signals s ≢ Register → assigned_by (bodies f) s ≡ 0
  pub bits : (s i : ℕ) → i < size_in f s → times_processed (size_in f) s i (bodies f) ≤ 1
  pub one_clock : (s : ℕ) → kind_in f.signals s ≡ Register → All (λ (p : ℕ × Stmt). All (λ (q : ℕ × Stmt). assigns p.1 s ≡ true → assigns q.1 s ≡ true → p.0 ≡ q.0) f.clocked) f.clocked
  pub clocks : All (λ (p : ℕ × Stmt). size_in f p.0 ≡ 1) f.clocked

abbrev pub WellClockedLaw : Type 0
WellClockedLaw = (modules : List ModuleTree) → IsSourceFormed modules → (top : Text) (resets : List ResetPin) (named : List Text) (f : Flat) → unfolded modules top resets named ≡ good f → IsWellClocked f

-- with the widths that it keeps: where each is the size of what it stands for, a flat design that unfolds so is well sized
abbrev pub WellSizedLaw : Type 0
WellSizedLaw = (modules : List ModuleTree) → IsSourceFormed modules → (top : Text) (resets : List ResetPin) (named : List Text) (flat : f.Flat) → unfolded modules top resets named ≡ good (flat_of flat) → KeepsSizes flat → IsWellSized flat
