-- Constraints that fit together.
use Rattle.std.proofs.Common.{◌≡◌, ◌∙◌, sym, subst, refl, arith, ℕ, zero, suc, ◌+◌, ◌<◌, ◌≤◌, Bool, true, false, ◌||◌, cond, List, [], ◌∷◌, ◌++◌, length, Option, Some, None, get_or, length-append}
use Rattle.std.specs.Prelude.{◌≢◌, All, AllPairs, is_none}
use Rattle.std.specs.List.{AllByRecursion, list_any}
use Rattle.std.specs.Str.{bytes_eq}
use Rattle.std.proofs.lemmas.List.{get_or_append_left, get_or-append-add}
use Rattle.std.proofs.lemmas.List.Elements.{All-from_recursion}
use Rattle.std.proofs.lemmas.Slice.Eq.{bytes_eq-Decides}
use Rattle.clock_constraints.specs.declared.ClockPin.{ClockPin}
use Rattle.clock_constraints.specs.declared.InputPin.{InputPin}
use Rattle.clock_constraints.specs.declared.Constraints.{Constraints}
use Rattle.clock_constraints.specs.Refusals.{Text}
use Rattle.clock_constraints.specs.Names.{first_again}
use Rattle.clock_constraints.specs.Fit.{AreFit, declared_names}
use Rattle.clock_constraints.proofs.FitFiles.{all-differ}
use Rattle.sdc_subset.specs.declared.pins.Meaning.{Meaning}
use Rattle.sdc_subset.specs.declared.pins.Meaning.TheVariants.{Clock, Input, Reset}
use Rattle.sdc_subset.specs.declared.pins.Pin.{Pin}
use Rattle.sdc_subset.specs.declared.groups.Member.{Member}
use Rattle.sdc_subset.specs.Meanings.{clock_pin, clock_pins}

-- each clock's bits settle in one cycle
abbrev Settles : ClockPin → Type 0
Settles k = (1 ≤ k.settle) × (k.settle ≤ 3)

settle-all : (ms : List Member) (ps : List Pin) → AllByRecursion Settles (clock_pins ms ps)
settle-all ms [] = tt
settle-all ms (p ∷ ps) = go p.meaning (settle-all ms ps)
  where
    go : (m : Meaning) → AllByRecursion Settles (clock_pins ms ps) → AllByRecursion Settles (clock_pin ms p.port m ++ clock_pins ms ps)
    go (Clock n) rest = (let one : (1 ≤ 1) × (1 ≤ 3) = (omega arith, omega arith) in one, rest)
    go (Input n) rest = rest
    go (Reset h) rest = rest

none-there : (o : Option Text) → is_none o ≡ true → o ≡ None
none-there None h = refl
none-there (Some n) h = absurd (cc)

pub made-fit : (c : Constraints) (ms : List Member) (ps : List Pin) → c.clocks ≡ clock_pins ms ps
    → All (λ (i : InputPin). i.clock < length c.clocks) c.inputs → is_none (first_again [] (declared_names c)) ≡ true → AreFit c
made-fit c ms ps e within distinct = record {
  inputs = within;
  names = all-differ [] (declared_names c) (none-there (first_again [] (declared_names c)) distinct);
  settles = All-from_recursion (λ (k : ClockPin). (1 ≤ k.settle) × (k.settle ≤ 3)) c.clocks (subst (AllByRecursion Settles) (sym e) (settle-all ms ps));
}
