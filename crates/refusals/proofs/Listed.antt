-- What holds of each number of a list.
use Rattle.std.proofs.Common.{◌≡◌, ◌∙◌, ℕ, Bool, true, false, ◌||◌, ◌&&◌, ◌==◌, List, [], ◌∷◌, refl, sym, ap, subst, rules, tests}
use Rattle.std.specs.Prelude.{Result, Ok, Err, IfErr}
use Rattle.std.specs.List.{list_all, list_any}
use Rattle.cdc_base.specs.declared.fault.Stop.{Stop}
use Rattle.cdc_base.specs.declared.fault.Stop.TheVariants.{Refused, Memory}
use Rattle.refusals.specs.Numbers.{is_listed, HasNumberIn}

-- a test that all numbers pass is passed by a listed one
pub listed_passes : (p : ℕ → Bool) (numbers : List ℕ) (n : ℕ) → list_all p numbers ≡ true → is_listed numbers n ≡ true → p n ≡ true
listed_passes p [] n all listed = search (rules, tests)
listed_passes p (m ∷ ms) n all listed = grind (listed_passes p ms n, rules, tests)

-- a refusal with one of some numbers has one of more numbers
pub among : (numbers more : List ℕ) (stop : Stop) → list_all (is_listed more) numbers ≡ true → HasNumberIn numbers stop
    → HasNumberIn more stop
among numbers more Memory all listed = tt
among numbers more (Refused fault) all listed = listed_passes (is_listed more) numbers fault.number all listed
