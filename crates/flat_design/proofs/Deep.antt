-- While a module is entered that isn't being visited, the bound on the depth of visits isn't met.
use Rattle.std.proofs.Common.{◌≡◌, ℕ, zero, suc, ◌+◌, ◌-◌, ◌≤◌, Bool, true, false, cond, List, [], ◌∷◌, length, map, Some, refl, ap, ◌∙◌, arith, rules, bytes_eq}
use Rattle.std.specs.Prelude.{slice_get}
use Rattle.std.proofs.lemmas.Slice.Eq.{bytes_eq-Decides}
use Rattle.cdc_base.specs.Words.{is_in}
use Rattle.verilog_ast.specs.declared.Module.{Module}
use Rattle.verilog_reading.specs.SourceTree.{ModuleTree}
use Rattle.flat_unfolding.specs.Outcome.{Text}
use Rattle.flat_unfolding.proofs.Names.{AllIn, AreDistinct, no_more_than}
use Rattle.flat_unfolding.proofs.Steps.{some_is}
use Rattle.flat_design.specs.declared.visit.Open.{Open}
use Rattle.flat_design.specs.Visiting.{Frame, visited, AreFrames, AreDifferent}

-- the names of modules
abbrev names_in : List Module → List Text
names_in modules = map (λ (m : Module). m.name) modules

is-known : (modules : List Module) (i : ℕ) (m : Module) → slice_get modules i ≡ Some m → is_in (names_in modules) m.name ≡ true
is-known [] i m e = absurd (search (rules, e))
is-known (q ∷ modules) zero m e = ap (λ b. cond b true (is_in (names_in modules) m.name)) ((bytes_eq-Decides q.name m.name).1 (ap (λ (z : Module). z.name) (some_is q m e)))
is-known (q ∷ modules) (suc i) m e = go (bytes_eq q.name m.name) (is-known modules i m e)
  where
    go : (b : Bool) → is_in (names_in modules) m.name ≡ true → cond b true (is_in (names_in modules) m.name) ≡ true
    go true h = refl
    go false h = h

all-known : (modules : List Module) (opens : List Open) (fs : List Frame) → AreFrames modules opens fs → AllIn (visited fs) (names_in modules)
all-known modules opens [] h = tt
all-known modules opens (f ∷ fs) h =
    (ap (is_in (names_in modules)) (ap (λ (t : ModuleTree). t.name) h.3.is) ∙ is-known modules h.1.module h.3.tree h.3.found, all-known modules h.0 fs h.5)

are-distinct : (xs : List Text) → AreDifferent xs → AreDistinct xs
are-distinct [] h = tt
are-distinct (x ∷ xs) h = (h.0, are-distinct xs h.1)

count-names : (modules : List Module) → length (names_in modules) ≡ length modules
count-names [] = refl
count-names (m ∷ modules) = ap suc (count-names modules)

count-visited : (fs : List Frame) → length (visited fs) ≡ length fs
count-visited [] = refl
count-visited (f ∷ fs) = ap suc (count-visited fs)

-- one module more is no more than there are
pub room-for : (modules : List Module) (opens : List Open) (fs : List Frame) (number : ℕ) (m : Module) → AreFrames modules opens fs → AreDifferent (visited fs) → slice_get modules number ≡ Some m
    → is_in (visited fs) m.name ≡ false → suc (length fs) ≤ length modules
room-for modules opens fs number m h d e new =
    let k = no_more_than (m.name ∷ visited fs) (names_in modules) (new, are-distinct (visited fs) d) (is-known modules number m e, all-known modules opens fs h) in
    let a = count-names modules in let b = count-visited fs in omega (arith, k, a, b)

pub one-deeper : (modules : List Module) (opens : List Open) (f : Frame) (fs : List Frame) (number : ℕ) (m : Module) → AreFrames modules opens (f ∷ fs) → AreDifferent (visited (f ∷ fs)) → slice_get modules number ≡ Some m
    → is_in (visited (f ∷ fs)) m.name ≡ false → f.depth + length (f ∷ fs) ≡ length modules → f.depth ≡ suc (f.depth - 1)
one-deeper modules opens f fs number m h d e new b = let k = room-for modules opens (f ∷ fs) number m h d e new in omega (arith, k, b)
