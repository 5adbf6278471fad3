-- The line of a refusal for length is that of no other refusal.
use Rattle.std.proofs.Common.{◌≡◌, ◌∙◌, ℕ, ◌+◌, ◌/◌, ◌%◌, ◌==◌, Bool, true, not, List, take, drop, ap, arith}
use Rattle.std.specs.List.{list_all}
use Rattle.std.proofs.lemmas.Bool.Decides.{nat_tests}
use Rattle.cdc_base.specs.declared.fault.Fault.{Fault}
use Rattle.report.specs.Faults.{line_of, three_digits}
use Rattle.refusals.specs.Numbers.{is_listed}
use Rattle.refusals.proofs.Listed.{listed_passes}

-- whether the last three digits of a number are not those of 600
abbrev pub is_other : ℕ → Bool
is_other n = not (n % 1000 == 600)

same_end : (n : ℕ) → three_digits n ≡ three_digits 600 → n % 1000 ≡ 600
same_end n e =
    let hundreds : 48 + n / 100 % 10 ≡ 54 = cc in
    let tens : 48 + n / 10 % 10 ≡ 48 = cc in
    let ones : 48 + n % 10 ≡ 48 = cc in
    omega (arith, hundreds, tens, ones)

-- a refusal with a listed number, none of which ends as 600 does, has another line
pub other_line : (numbers : List ℕ) (f g : Fault) → list_all is_other numbers ≡ true → is_listed numbers f.number ≡ true
    → line_of f ≡ line_of g → g.number ≡ 600 → ⊥
other_line numbers f g all listed lines is =
    let digits : three_digits f.number ≡ three_digits 600 = ap (λ t. take 3 (drop 7 t)) lines ∙ ap three_digits is in
    let passes : is_other f.number ≡ true = listed_passes is_other numbers f.number all listed in
    let ends : f.number % 1000 ≡ 600 = same_end f.number digits in
    grind (arith, nat_tests)
